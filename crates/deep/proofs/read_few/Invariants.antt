-- `deep::read_few` meets its contract. The loop's invariant: what the slice's records find is found from the place on, in the
-- part as it stands there, with the parts of the row open around it. Assumes nothing.
use mathlib.Core.Path.{◌≡◌}
use mathlib.Core.List.{[]}
use Prim.Native.Nat.{◌≤◌}
use lib.ListN.{length}
use Rattle.rules.specs.Names.{max_records}
use Rattle.rules.specs.Check.{kinds}
use Rattle.deep.specs.Reading.{reading}
use Rattle.deep.proofs.Turn.{FoundIn}
use Rattle.deep.proofs.Around.{around}
use Rattle.deep.proofs.read_few.Given as goal

abbrev pub invariant-loop-place : goal.invariant-loop-place
invariant-loop-place l =
    record {
      below : l.«open» ≤ l.place;
      long : length l.around ≡ max_records;
      found : FoundIn l.s (reading l.initial.part [] (kinds l.s)) l.part (around l.«open» l.around) l.place;
    }
