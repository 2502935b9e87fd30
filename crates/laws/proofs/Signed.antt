-- Integers for omega: a number is what it has above 0 less what it has below. Each law turns a fact about integers into one about those
-- two. Assumes nothing.
use mathlib.Core.Path.{◌≡◌, refl}
use mathlib.Core.Logic.{◌↔◌}
use mathlib.Core.Bool.{true, false≢true}
use Prim.Native.Nat.{ℕ, zero, suc, ◌+◌, ◌≤◌}
use native.Mathlib.Omega.{arith}
use borrow.Author.Tests.{leb-true, le-leb, ltb-true, ltb-false}
use lib.Dec.{ltb}
use lib.IntN.{ℤ, pos, negsuc, pred_ℤ, ◌+ℤ◌, ◌-ℤ◌, -ℤ_one}
use lib.Signed.{le_z}
use Rattle.rules.specs.State.{in_bound}
use Rattle.laws.proofs.Choice.{by_test}

abbrev pub up : ℤ → ℕ
up (pos a) = a
up (negsuc a) = 0

abbrev pub down : ℤ → ℕ
down (pos a) = 0
down (negsuc a) = suc a

pub le_z_means : (x y : ℤ) → (le_z x y ≡ true) ↔ (up x + down y ≤ up y + down x)
le_z_means (pos a) (pos b) = (λ h. omega (arith, leb-true a b h), λ h. le-leb a b (omega arith))
le_z_means (pos a) (negsuc b) = (λ h. absurd (false≢true h), λ h. absurd (omega arith))
le_z_means (negsuc a) (pos b) = (λ h. omega arith, λ h. refl)
le_z_means (negsuc a) (negsuc b) = (λ h. omega (arith, leb-true b a h), λ h. le-leb b a (omega arith))

plus_sums : (z : ℤ) (c : ℕ) → up (z +ℤ pos c) + down z ≡ up z + c + down (z +ℤ pos c)
plus_sums (pos a) c = omega arith
plus_sums (negsuc a) c =
    by_test (ltb c (suc a))
    (λ e. rw e (omega (arith, ltb-true c (suc a) e)))
    (λ e. rw e (omega (arith, ltb-false c (suc a) e)))

pred_sums : (z : ℤ) → up (pred_ℤ z) + down z + 1 ≡ up z + down (pred_ℤ z)
pred_sums (pos zero) = refl
pred_sums (pos (suc a)) = omega arith
pred_sums (negsuc a) = omega arith

pub less_sums : (z : ℤ) → up (z -ℤ pos 1) + down z + 1 ≡ up z + down (z -ℤ pos 1)
less_sums z = rw -ℤ_one (pred_sums z)

-- priority plus count at most B
pub in_bound_means : (b : ℕ) (z : ℤ) (c : ℕ) → (in_bound b z c ≡ true) ↔ (up z + c ≤ b + down z)
in_bound_means b z c =
    let m = le_z_means (z +ℤ pos c) (pos b) in
    let e = plus_sums z c in
    (λ h. omega (arith, m.0 h), λ h. m.1 (omega arith))
