-- An array that a loop fills from the front: one turn of the loop, and its end. Assumes nothing.
use Prim.Native.Nat.{ℕ, ◌+◌, ◌≤◌, ◌<◌}
use mathlib.Core.Path.{◌≡◌, ◌∙◌}
use mathlib.Core.List.{List}
use native.Mathlib.Nat.{le_antisymm}
use lib.ListN.{set}
use Rattle.rules.specs.Words.{values}
use Rattle.laws.proofs.Filled.{filled, filled_more, filled_all}

module _ {A : Type 0} (f : ℕ → A) (d : A) (size : ℕ) where
  pub filled_turn : (xs : List A) (j : ℕ) (x : A) → j < size → xs ≡ filled f d size j → x ≡ f j → set xs j x ≡ filled f d size (j + 1)
  filled_turn xs j x within so_far new = rw (so_far, new) (filled_more f d size j within)

  pub filled_end : (xs : List A) (j : ℕ) → j ≤ size → size ≤ j → xs ≡ filled f d size j → xs ≡ values f size
  filled_end xs j a b so_far = rw (le_antisymm a b) at so_far ∙ filled_all f d size
