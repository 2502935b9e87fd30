-- `charging::lower` meets its contract. The loop's invariant: the stations passed are charged. Assumes nothing.
use mathlib.Core.Path.{◌≡◌}
use Rattle.rules.specs.Words.{changed}
use Rattle.charging.specs.Charge.{unpicked}
use Rattle.charging.proofs.lower.Given as goal

abbrev pub invariant-loop-j : goal.invariant-loop-j
invariant-loop-j l = l.priorities ≡ changed (unpicked l.ready) l.j l.initial.priorities
