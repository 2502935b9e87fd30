-- `outset::first_priorities` meets its contract. The loop's invariant: the places passed are filled. Assumes nothing.
use mathlib.Core.Path.{◌≡◌}
use lib.IntN.{pos}
use Rattle.rules.specs.Names.{max_stations}
use Rattle.rules.specs.Records.{pick_at}
use Rattle.laws.proofs.Filled.{filled}
use Rattle.outset.proofs.first_priorities.Given as goal

abbrev pub invariant-loop-j : goal.invariant-loop-j
invariant-loop-j l = (l.priorities ≡ filled (λ k. pos (pick_at l.log k).reset) (pos 0) max_stations l.j)
