-- How many entries of a list pass a test. This is a definition.
use Rattle.std.specs.Prelude.{ℕ, suc, Bool, List, [], ◌∷◌, if◌then◌else◌}

module _ {A : Type 0} where
  unfoldable pub number_of : (A → Bool) → List A → ℕ
  number_of test [] = 0
  number_of test (x ∷ xs) = if test x then suc (number_of test xs) else number_of test xs
