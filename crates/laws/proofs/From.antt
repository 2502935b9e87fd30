-- Tests at the places from one place up to another, as a loop makes them. Assumes nothing.
use mathlib.Core.Path.{◌≡◌}
use mathlib.Core.Bool.{Bool, true, false}
use Prim.Native.Nat.{ℕ, ◌+◌, ◌-◌, ◌≤◌, ◌<◌}
use native.Mathlib.Omega.{arith}
use Rattle.rules.specs.Words.{each, first}
use Rattle.laws.proofs.Places.{each_all, each_not, first_is, first_none}

module _ (f : ℕ → Bool) (start end : ℕ) where
  -- every place from the start to below the end passes
  pub each_between : ((p : ℕ) → p < end → start ≤ p → f p ≡ true) → each (λ i. f (start + i)) (end - start) ≡ true
  each_between passes = each_all (λ i. f (start + i)) (end - start) (λ i l. passes (start + i) (omega arith) (omega arith))

  -- one of them that fails is enough
  pub each_from_not : (p : ℕ) → start ≤ p → p < end → f p ≡ false → each (λ i. f (start + i)) (end - start) ≡ false
  each_from_not p above below fails =
      let back : start + (p - start) ≡ p = omega arith in
      each_not (λ i. f (start + i)) (end - start) (p - start) (omega arith) (rw back fails)

  -- the first of them at which the test holds
  pub first_from : (p : ℕ) → start ≤ p → p < end → f p ≡ true → ((k : ℕ) → k < p → start ≤ k → f k ≡ false)
      → p ≡ start + first (λ i. f (start + i)) (end - start)
  first_from p above below holds fails =
      let back : start + (p - start) ≡ p = omega arith in
      let found : first (λ i. f (start + i)) (end - start) ≡ p - start =
      first_is (λ i. f (start + i)) (end - start) (p - start) (omega arith) (rw back holds)
      (λ k l. fails (start + k) (omega arith) (omega arith)) in
      omega arith

  -- the test holds at none of them
  pub first_from_none : (p : ℕ) → start ≤ p → p - start ≡ end - start → ((k : ℕ) → k < p → start ≤ k → f k ≡ false)
      → p ≡ start + first (λ i. f (start + i)) (end - start)
  first_from_none p above past fails =
      let none : first (λ i. f (start + i)) (end - start) ≡ end - start =
      first_none (λ i. f (start + i)) (end - start) (λ k l. fails (start + k) (omega arith) (omega arith)) in
      omega arith
