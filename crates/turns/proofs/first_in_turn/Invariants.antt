-- `turns::first_in_turn` meets its contract. The loop's invariant: of the stations passed the one found is it. Assumes nothing.
use mathlib.Core.Bool.{false}
use lib.ListN.{get_or}
use Rattle.rules.specs.State.{priority_in}
use Rattle.turns.proofs.First.{Sought}
use Rattle.turns.proofs.first_in_turn.Given as goal

abbrev pub invariant-loop-j : goal.invariant-loop-j
invariant-loop-j l = Sought (λ k. get_or l.all k false) (priority_in l.priorities) l.j l.found
