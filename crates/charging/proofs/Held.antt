-- A priority of 16 bits that loses 1; and the charge of priorities that are not as low as 16 bits go, and the counts of those that are not as
-- high. Assumes nothing.
use Rattle.std.specs.Prelude.{if◌then◌else◌}
use Rattle.std.specs.Int.{saturate_signed}
use Prim.Native.Nat.{ℕ, zero, suc, ◌+◌, ◌≤◌, ◌<◌, min}
use mathlib.Core.Path.{◌≡◌, refl, ap}
use mathlib.Core.Bool.{Bool, true, false, true≢false}
use native.Mathlib.Omega.{arith}
use mir.Syntax.{w16}
use mir.Val.{SFits, bool_byte}
use lib.Dec.{leb}
use lib.IntN.{ℤ, pos, negsuc, neg_ℤ, ◌-ℤ◌, -ℤ_one, +ℤ_idr}
use lib.Signed.{le_z}
use borrow.Author.Tests.{leb-true, leb-false, lt-leb}
use Rattle.rules.specs.Names.{max_stations}
use Rattle.rules.specs.Turn.{charged, counted}
use Rattle.laws.proofs.Choice.{by_test}
use Rattle.charging.specs.Charge.{lowered, held_charge, counted_on, held_count}

-- one that saturates as it loses 1, or nothing
pub lowers : (ready : Bool) (p : ℤ) → SFits w16 p → saturate_signed w16 (p -ℤ pos (bool_byte ready)) ≡ (if ready then lowered p else p)
lowers true (pos zero) fits = rw -ℤ_one
lowers true (pos (suc a)) fits = rw -ℤ_one (ap pos (omega (arith, fits.sfits)))
lowers true (negsuc a) fits =
    by_test (leb 32767 a)
    (λ e. rw e (ap negsuc (omega (arith, fits.sfits, leb-true 32767 a e))))
    (λ e. rw e (ap negsuc (omega (arith, leb-false 32767 a e))))
lowers false (pos a) fits = ap pos (omega (arith, fits.sfits))
lowers false (negsuc a) fits = rw +ℤ_idr (ap negsuc (omega (arith, fits.sfits)))

-- and a count that gains 1, or nothing
pub counts_on : (ready : Bool) (c : ℕ) → c < 65536 → min (c + bool_byte ready) 65535 ≡ (if ready then counted_on c else c)
counts_on true c fits =
    by_test (leb 65535 c)
    (λ e. rw e (omega (arith, leb-true 65535 c e)))
    (λ e. rw e (omega (arith, leb-false 65535 c e)))
counts_on false c fits = omega arith

-- above -n, with n at most 8, nothing is as low as they go
not_low : (n : ℕ) (p : ℤ) → n ≤ max_stations → le_z p (neg_ℤ (pos n)) ≡ false → le_z p (neg_ℤ (pos 32768)) ≡ false
not_low n (pos a) few above = refl
not_low zero (negsuc a) few above = absurd (true≢false above)
not_low (suc n) (negsuc a) few above = lt-leb 32767 a (omega (arith, leb-false n a above))

-- so that the charge is the rules'
pub charge_is : (n : ℕ) (p : ℤ) (picked ready : Bool) (reset : ℕ) → n ≤ max_stations → le_z p (neg_ℤ (pos n)) ≡ false
    → held_charge picked ready reset p ≡ charged picked ready reset p
charge_is n p true ready reset few above = refl
charge_is n p false true reset few above = rw (not_low n p few above)
charge_is n p false false reset few above = refl

pub count_is : (c : ℕ) (picked ready : Bool) → c < 65535 → held_count picked ready c ≡ counted picked ready c
count_is c true ready room = refl
count_is c false true room = rw (lt-leb 65535 c room)
count_is c false false room = refl
