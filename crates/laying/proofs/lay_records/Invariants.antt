-- `laying::lay_records` meets its contract: with i records still to be read, the layout and the list are those of the records
-- from i on, laid from the last to the first.
-- Assumes nothing.
use mathlib.Core.Path.{◌≡◌}
use lib.ListN.{drop}
use Rattle.rules.specs.Records.{records}
use Rattle.layout.specs.View.{as_laying}
use Rattle.laying.specs.Laid.{Laid, lay_records}
use Rattle.laying.proofs.lay_records.Given as goal

abbrev pub invariant-loop-i : goal.invariant-loop-i
invariant-loop-i l =
    ◌≡◌ {A = Laid} (record { state = as_laying l.x; buffer = l.list })
    (lay_records l.loops (drop l.i (records l.file)) (record { state = as_laying l.initial.x; buffer = l.initial.list }))
