-- An array that is filled from the front: what its first places hold, and a default in the others. Assumes nothing.
use Prim.Native.Nat.{ℕ, zero, suc, ◌+◌, ◌-◌, ◌≤◌, ◌<◌}
use mathlib.Core.Path.{◌≡◌, refl, ap}
use mathlib.Core.List.{List, ◌∷◌, ◌++◌, map, append_assoc, append-nil}
use native.Mathlib.Nat.{not-suc-le-zero, le_of_suc-le-suc}
use native.Mathlib.Numerals.{add-one}
use native.Mathlib.Omega.{arith}
use lib.ListN.{set, replicate}
use lib.Seq.{set_at}
use Rattle.rules.specs.Words.{values}
use Rattle.laws.proofs.Places.{length_values, values_suc}

module _ {A : Type 0} where
  abbrev pub filled : (ℕ → A) → A → ℕ → ℕ → List A
  filled f d size j = values f j ++ replicate (size - j) d

  pub filled_none : (f : ℕ → A) (d : A) (size : ℕ) → replicate (size - 0) d ≡ filled f d size 0
  unfolding values
  filled_none f d size = refl

  pub filled_more : (f : ℕ → A) (d : A) (size j : ℕ) → j < size → set (filled f d size j) j (f j) ≡ filled f d size (j + 1)
  filled_more f d size j within =
      let left : size - j ≡ suc (size - (j + 1)) = omega arith in
      rw (left, set_at (values f j) d (replicate (size - (j + 1)) d) (f j) j (length_values f j), add-one, values_suc, append_assoc)

  pub filled_all : (f : ℕ → A) (d : A) (size : ℕ) → filled f d size size ≡ values f size
  filled_all f d size =
      let none : size - size ≡ 0 = omega arith in
      rw (none, append-nil)

  -- where the rest of a row would hold what it is filled with, it is whole already
  pub filled_rest : (f : ℕ → A) (d : A) (size j : ℕ) → j ≤ size → ((k : ℕ) → j ≤ k → f k ≡ d) → filled f d size j ≡ values f size
  unfolding values
  filled_rest f d zero zero h same = refl
  filled_rest f d zero (suc j) h same = absurd (not-suc-le-zero h)
  filled_rest f d (suc size) zero h same =
      let left : suc size - 0 ≡ suc (size - 0) = omega arith in
      rw (same 0 (omega arith), left)
      (ap (λ (l : List A). d ∷ l) (filled_rest (λ k. f (suc k)) d size zero (omega arith) (λ k l. same (suc k) (omega arith))))
  filled_rest f d (suc size) (suc j) h same =
      let left : suc size - suc j ≡ size - j = omega arith in
      rw left
      (ap (λ (l : List A). f 0 ∷ l) (filled_rest (λ k. f (suc k)) d size j (le_of_suc-le-suc h) (λ k l. same (suc k) (omega arith))))

pub map_values : {A B : Type 0} (g : A → B) (f : ℕ → A) (n : ℕ) → map g (values f n) ≡ values (λ j. g (f j)) n
unfolding values
map_values {A} {B} g f zero = refl
map_values {A} {B} g f (suc n) = ap (λ (rest : List B). g (f 0) ∷ rest) (map_values g (λ j. f (suc j)) n)
