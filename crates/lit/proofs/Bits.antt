-- The bits of a mask: those of the places at which the test holds, and no others; and a mask is known by its bits. Assumes nothing.
use Rattle.std.specs.Prelude.{if◌then◌else◌}
use mathlib.Core.Path.{◌≡◌, refl, sym, ap, ◌∙◌}
use mathlib.Core.Logic.{◌↔◌}
use mathlib.Core.Bool.{Bool, true, false, false≢true}
use Prim.Native.Nat.{ℕ, zero, suc, ◌+◌, ◌*◌, ◌/◌, ◌%◌, ◌≤◌, ◌<◌}
use native.Mathlib.Omega.{arith}
use borrow.Author.Tests.{eqb-true, eqb-false, eq-eqb, ne_eqb}
use lib.Dec.{eqb}
use Rattle.rules.specs.Words.{mask}
use Rattle.laws.proofs.Choice.{by_test}
use Rattle.lit.specs.Lit.{bit}

no_bits : (j : ℕ) → bit 0 j ≡ false
unfolding bit
no_bits zero = refl
no_bits (suc j) = no_bits j

-- a place more before the others takes bit 0
first_bit : (b : Bool) (m : ℕ) → eqb (((if b then 1 else 0) + 2 * m) % 2) 1 ≡ b
first_bit true m = eq-eqb ((1 + 2 * m) % 2) 1 (omega arith)
first_bit false m = ne_eqb ((0 + 2 * m) % 2) 1 (λ e. omega arith)

other_bits : (b : Bool) (m : ℕ) → ((if b then 1 else 0) + 2 * m) / 2 ≡ m
other_bits true m = omega arith
other_bits false m = omega arith

pub mask_bits : (f : ℕ → Bool) (n j : ℕ) → (bit (mask f n) j ≡ true) ↔ ((j < n) × (f j ≡ true))
unfolding bit mask
mask_bits f zero j = (λ h. absurd (false≢true (sym (no_bits j) ∙ h)), λ h. absurd (omega (arith, h.0)))
mask_bits f (suc n) zero =
    let same = first_bit (f 0) (mask (λ i. f (suc i)) n) in (λ h. (omega arith, sym same ∙ h), λ h. same ∙ h.1)
mask_bits f (suc n) (suc j) =
    let same = ap (λ (m : ℕ). bit m j) (other_bits (f 0) (mask (λ i. f (suc i)) n)) in
    let rest = mask_bits (λ i. f (suc i)) n j in (
      λ h. let on = rest.0 (sym same ∙ h) in (omega (arith, on.0), on.1),
      λ h. same ∙ rest.1 (omega (arith, h.0), h.1),
    )

-- two numbers with the same bits are the same: so are their halves and what is left over
same_odd : (m k : ℕ) → eqb (m % 2) 1 ≡ eqb (k % 2) 1 → m % 2 ≡ k % 2
same_odd m k same =
    by_test (eqb (k % 2) 1)
    (λ e. eqb-true (m % 2) 1 (same ∙ e) ∙ sym (eqb-true (k % 2) 1 e))
    (λ e. let a = eqb-false (m % 2) 1 (same ∙ e) in let b = eqb-false (k % 2) 1 e in omega arith)

same_within : (most m k : ℕ) → m + k ≤ most → ((j : ℕ) → bit m j ≡ bit k j) → m ≡ k
unfolding bit
same_within zero m k few same = omega arith
same_within (suc most) m k few same =
    let halves = same_within most (m / 2) (k / 2) (omega arith) (λ j. same (suc j)) in
    let left = same_odd m k (same 0) in
    omega arith

pub bits_same : (m k : ℕ) → ((j : ℕ) → bit m j ≡ bit k j) → m ≡ k
bits_same m k = same_within (m + k) m k (omega arith)
