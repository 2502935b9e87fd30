-- The part of a buffer that begins at a kept place, as the code takes it. Assumes nothing.
use Prim.Native.Nat.{ℕ, ◌-◌}
use mathlib.Core.Path.{◌≡◌}
use mathlib.Core.List.{List}
use native.Mathlib.Omega.{arith}
use lib.ListN.{length, take, drop, length-drop}
use lib.Seq.{take_all}
use Rattle.rules.specs.Kept.{kept_offset}

pub from_place : (kept : List ℕ) (j : ℕ) → take (length kept - kept_offset j) (drop (kept_offset j) kept) ≡ drop (kept_offset j) kept
from_place kept j = take_all (length kept - kept_offset j) (drop (kept_offset j) kept) (omega (arith, length-drop (kept_offset j) kept))
