-- `charging::count` meets its contract. The loop's invariant: the stations passed are counted. Assumes nothing.
use mathlib.Core.Path.{◌≡◌}
use Rattle.rules.specs.Words.{changed}
use Rattle.charging.specs.Charge.{passed}
use Rattle.charging.proofs.count.Given as goal

abbrev pub invariant-loop-j : goal.invariant-loop-j
invariant-loop-j l = l.counts ≡ changed (passed l.ready) l.j l.initial.counts
