-- What is read from the part of a buffer that begins at a kept place: the state in that place, or zeros where the part is shorter than
-- a place. Assumes nothing.
use Prim.Native.Nat.{ℕ, ◌+◌, ◌≤◌}
use mathlib.Core.Path.{◌≡◌}
use mathlib.Core.Bool.{true}
use mathlib.Core.List.{List}
use native.Mathlib.Nat.{add_assoc, zero-add}
use native.Mathlib.Omega.{arith}
use lib.Dec.{leb}
use lib.ListN.{length, drop, length-drop}
use lib.Seq.{get_or-drop}
use borrow.Author.Tests.{le-leb}
use Rattle.rules.specs.Names.{kept_length}
use Rattle.rules.specs.Kept.{kept_offset, kept_state, kept_zeros}
use Rattle.recalling.specs.Recalled.{recalled}

pub recalled_whole : (part : List ℕ) → kept_length ≤ length part → recalled part ≡ kept_state part 1
recalled_whole part whole = rw (le-leb kept_length (length part) whole)

module _ (kept : List ℕ) (j : ℕ) where
  -- a place that the buffer has is whole in the part that begins there
  pub whole_at : kept_offset j + kept_length ≤ length kept → leb kept_length (length (drop (kept_offset j) kept)) ≡ true
  whole_at room = le-leb kept_length (length (drop (kept_offset j) kept)) (simp length-drop (omega arith))

  pub recalled_at : kept_offset j + kept_length ≤ length kept → recalled (drop (kept_offset j) kept) ≡ kept_state kept j
  unfolding kept_state
  recalled_at room = rw (whole_at room) (simp (get_or-drop, add_assoc, zero-add))

  pub zeros_at : kept_zeros (drop (kept_offset j) kept) 1 ≡ kept_zeros kept j
  unfolding kept_zeros
  zeros_at = simp (get_or-drop, add_assoc, zero-add)
