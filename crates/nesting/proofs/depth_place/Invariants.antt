-- `nesting::depth_place` meets its contract. The loop's invariant: no more is open than may be, and the place is found from
-- here on. Assumes nothing.
use Prim.Native.Nat.{◌≤◌}
use Rattle.rules.specs.Names.{max_depth}
use Rattle.nesting.proofs.Open.{Deep}
use Rattle.nesting.proofs.depth_place.Given as goal

abbrev pub invariant-loop-at : goal.invariant-loop-at
invariant-loop-at l = record { within : l.depth ≤ max_depth; found : Deep l.file l.depth l.at }
