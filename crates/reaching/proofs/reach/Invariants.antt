-- `reaching::reach` meets its contract. The loop's invariant: what the trace comes to is the same as from the beginning. The measure is how many
-- pieces are left at most. Assumes nothing.
use Rattle.text.specs.View.{text_of}
use Rattle.tracing.specs.Tracing.{left}
use Rattle.tracing.specs.View.{as_tracing}
use Rattle.reaching.specs.Reaching.{reached_after, reached}
use mathlib.Core.Path.{◌≡◌}
use Rattle.reaching.proofs.reach.Given as goal

abbrev pub invariant-loop-text : goal.invariant-loop-text
invariant-loop-text l =
    reached_after (text_of l.text) l.list l.picks (record { log = l.log; kept = l.kept }) (as_tracing l.tracer)
    ≡ reached l.list l.picks (record { log = l.initial.log; kept = l.initial.kept }) (as_tracing l.initial.tracer)

abbrev pub decreases-loop-text : goal.decreases-loop-text
decreases-loop-text l = left l.picks (as_tracing l.tracer)
