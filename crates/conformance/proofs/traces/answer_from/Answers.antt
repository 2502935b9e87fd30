-- `conformance::traces::answer_from` is safe and ends: a piece leaves fewer to print than there were. Assumes nothing.
use Rattle.std.proofs.Common.{◌≡◌, false}
use Rattle.tracing.specs.Tracing.{all_printed}
use Rattle.tracing.specs.View.{as_tracing}
use Rattle.tracing.proofs.Together.{left_falls}
use Rattle.conformance.proofs.traces.answer_from.Goals as goal

pub loop-tracer-smaller : goal.loop-tracer-smaller
loop-tracer-smaller g c =
    let more : all_printed (as_tracing c.loop-tracer.tracer) ≡ false = cc in
    left_falls c.args.list.now c.args.picks.now (record { log = c.loop-tracer.log; kept = c.loop-tracer.kept }) (as_tracing c.loop-tracer.tracer) more
    c.next-printed.ensures
