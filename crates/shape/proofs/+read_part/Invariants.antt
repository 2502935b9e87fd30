-- `shape::read_part` calls itself on a part of the slice, which has fewer bytes. The loop's invariant: what the slice's records find is
-- found from the place on, in the part as it stands there.
use Prim.Native.Nat.{◌-◌, ◌≤◌}
use mathlib.Core.List.{[]}
use lib.ListN.{length}
use Rattle.rules.specs.Records.{record_count}
use Rattle.rules.specs.Check.{kinds}
use Rattle.deep.specs.Reading.{reading}
use Rattle.deep.proofs.Turn.{Found}
use Rattle.shape.proofs.+read_part.Given as goal

-- the bytes of the slice
abbrev pub decreases-read_part : goal.decreases-read_part
decreases-read_part l = length l.s.now

abbrev pub invariant-loop-at : goal.invariant-loop-at
invariant-loop-at l = (l.at ≤ record_count l.s) × Found l.s (reading l.initial.part [] (kinds l.s)) l.part l.at

abbrev pub decreases-loop-at : goal.decreases-loop-at
decreases-loop-at l = record_count l.s - l.at
