-- `stations::judge` meets its contract. The loop's invariant: the stations passed are filled in, and it is known whether none of them is
-- ready and lower. Assumes nothing.
use mathlib.Core.Path.{◌≡◌}
use Rattle.rules.specs.Words.{each, changed}
use Rattle.rules.specs.State.{position_in, priority_in}
use Rattle.rules.specs.Turn.{yields_to}
use Rattle.stations.specs.Places.{ready_from}
use Rattle.stations.proofs.judge.Given as goal

abbrev pub invariant-loop-j : goal.invariant-loop-j
invariant-loop-j l =
    record {
      filled : l.all ≡ changed (λ k was. ready_from l.list l.state.vars (position_in l.state.positions k)) l.j l.initial.all;
      known : l.lowest ≡ each (λ k. yields_to (ready_from l.list l.state.vars (position_in l.state.positions k)) l.own (priority_in l.state.priorities k)) l.j;
    }
