-- The loop of `starts::write`. Its invariant: the start records of the stations passed are written.
use mathlib.Core.Path.{◌≡◌}
use lib.ListN.{take}
use Rattle.rules.specs.Words.{written}
use Rattle.rules.specs.Start.{start_records}
use Rattle.starts.proofs.write.Given as goal

abbrev pub invariant-loop-j : goal.invariant-loop-j
invariant-loop-j l = (l.log ≡ written l.initial.log 0 (start_records 0 (take l.j l.resets)))
