-- `soundness::low_count` meets its contract. The loop's invariant: those passed are counted. Assumes nothing.
use mathlib.Core.Path.{◌≡◌}
use lib.IntN.{pos, neg_ℤ}
use lib.Signed.{le_z}
use Rattle.rules.specs.Words.{tally}
use Rattle.rules.specs.State.{priority_in}
use Rattle.soundness.proofs.low_count.Given as goal

abbrev pub invariant-loop-j : goal.invariant-loop-j
invariant-loop-j l = (l.count ≡ tally (λ i. le_z (priority_in l.state.priorities i) (neg_ℤ (pos l.k))) l.j)
