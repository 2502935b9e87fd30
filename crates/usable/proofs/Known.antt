-- Of the part of a buffer that begins at a kept place it is the rules' test. Assumes nothing.
use Prim.Native.Nat.{ℕ, ◌+◌, ◌≤◌}
use mathlib.Core.Path.{◌≡◌}
use mathlib.Core.List.{List}
use lib.ListN.{length, drop}
use Rattle.rules.specs.Names.{kept_length}
use Rattle.rules.specs.Kept.{kept_offset, kept_right}
use Rattle.recalling.proofs.Known.{whole_at, recalled_at, zeros_at}
use Rattle.usable.specs.Usable.{usable}

pub usable_at : (list kept : List ℕ) (b j : ℕ) → kept_offset j + kept_length ≤ length kept
    → usable list (drop (kept_offset j) kept) b j ≡ kept_right list kept b j
unfolding usable kept_right
usable_at list kept b j room = rw (recalled_at kept j room, whole_at kept j room, zeros_at kept j)
