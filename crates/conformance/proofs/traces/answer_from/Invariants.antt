-- `conformance::traces::answer_from` is safe and ends. The measure is how many pieces are left at most. Assumes nothing.
use Rattle.tracing.specs.Tracing.{left}
use Rattle.tracing.specs.View.{as_tracing}
use Rattle.conformance.proofs.traces.answer_from.Given as goal

abbrev pub decreases-loop-tracer : goal.decreases-loop-tracer
decreases-loop-tracer g l = left l.picks (as_tracing l.tracer)
