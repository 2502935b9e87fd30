-- `stations::ready` meets its contract. The loop's invariant: the stations passed are filled in. Assumes nothing.
use mathlib.Core.Path.{◌≡◌}
use mathlib.Core.Bool.{false}
use lib.ListN.{replicate}
use Rattle.rules.specs.Words.{changed}
use Rattle.rules.specs.Names.{max_stations}
use Rattle.rules.specs.State.{position_in}
use Rattle.rules.specs.Ready.{says_ready}
use Rattle.stations.specs.Places.{readiness_by}
use Rattle.stations.proofs.ready.Given as goal

abbrev pub invariant-loop-j : goal.invariant-loop-j
invariant-loop-j l = l.all ≡ changed (λ k was. says_ready (readiness_by l.list l.vars (position_in l.positions k))) l.j (replicate max_stations false)
