-- A choice by a test, and both answers of a test at once. Assumes nothing.
use Rattle.std.specs.Prelude.{if◌then◌else◌}
use mathlib.Core.Path.{◌≡◌, refl, ◌∙◌}
use mathlib.Core.Bool.{Bool, true, false, ◌&&◌, ◌||◌, true≢false}

-- to show something, show it where the test holds and where it fails
pub by_test {ℓ} : {X : Type ℓ} (b : Bool) → (b ≡ true → X) → (b ≡ false → X) → X
by_test true here there = here refl
by_test false here there = there refl

-- a test holds if, were it to fail, what is true would be false
pub surely : (test : Bool) → (test ≡ false → false ≡ true) → test ≡ true
surely test fails = by_test test (λ e. e) (λ e. e ∙ fails e)

module _ {A : Type 0} where
  pub if_yes : {b : Bool} (x y : A) → b ≡ true → (if b then x else y) ≡ x
  if_yes x y e = rw e

  pub if_no : {b : Bool} (x y : A) → b ≡ false → (if b then x else y) ≡ y
  if_no x y e = rw e

-- both of two tests, and what each of them gives
pub both : {a b : Bool} → a ≡ true → b ≡ true → (a && b) ≡ true
both e f = rw (e, f)

pub both_left : (a b : Bool) → (a && b) ≡ true → a ≡ true
both_left true b e = refl
both_left false b e = e

pub both_right : (a b : Bool) → (a && b) ≡ true → b ≡ true
both_right true b e = e
both_right false true e = refl
both_right false false e = e

pub split : (a b : Bool) → (a && b) ≡ true → (a ≡ true) × (b ≡ true)
split a b e = (both_left a b e, both_right a b e)

pub not_both_left : (a b : Bool) → a ≡ false → (a && b) ≡ false
not_both_left a b e = rw e

pub not_both_right : (a b : Bool) → b ≡ false → (a && b) ≡ false
not_both_right true b e = e
not_both_right false b e = refl

-- neither of two tests
pub neither : (a b : Bool) → (a || b) ≡ false → (a ≡ false) × (b ≡ false)
neither true b e = absurd (true≢false e)
neither false b e = (refl, e)
