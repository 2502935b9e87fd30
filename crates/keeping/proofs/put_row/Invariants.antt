-- `keeping::put_row` meets its contract. The loop's invariant: the numbers passed are put in. Assumes nothing.
use mathlib.Core.Path.{◌≡◌}
use lib.ListN.{take}
use Rattle.rules.specs.Words.{joined, written}
use Rattle.keeping.proofs.put_row.Given as goal

abbrev pub invariant-loop-j : goal.invariant-loop-j
invariant-loop-j g l = (l.place ≡ written l.initial.place l.at (joined g.T.Spelled.spelled (take l.j l.row)))
