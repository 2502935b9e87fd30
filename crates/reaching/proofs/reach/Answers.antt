-- `reaching::reach` meets its contract: each piece leaves what the trace comes to as it was, and fewer pieces. Assumes nothing.
use Rattle.rules.specs.Lent.{Lent}
use Rattle.text.specs.View.{text_of}
use Rattle.tracing.specs.View.{as_tracing}
use Rattle.tracing.proofs.Together.{left_falls}
use Rattle.reaching.proofs.Pieces.{same_after, come}
use Rattle.std.proofs.Common.{◌≡◌, sym, ◌∙◌, true, false}
use Rattle.tracing.specs.Tracing.{all_printed}
use Rattle.reaching.proofs.reach.Goals as goal

pub loop-text-smaller : goal.loop-text-smaller
loop-text-smaller c =
    let a = c.args in
    let lent : Lent = record { log = c.loop-text.log; kept = c.loop-text.kept } in
    let more : all_printed (as_tracing c.loop-text.tracer) ≡ false = cc in
    left_falls a.list.now a.picks.now lent (as_tracing c.loop-text.tracer) more c.next-printed.ensures

pub loop-text-preserved : goal.loop-text-preserved
loop-text-preserved c =
    let a = c.args in
    let text = text_of c.loop-text.text in
    let lent : Lent = record { log = c.loop-text.log; kept = c.loop-text.kept } in
    let more : all_printed (as_tracing c.loop-text.tracer) ≡ false = cc in
    same_after text a.list.now a.picks.now lent (as_tracing c.loop-text.tracer) more c.next-printed.ensures ∙ c.loop-text.invariant

pub returns : goal.returns
returns c =
    let a = c.args in
    let text = text_of c.loop-text.text in
    let lent : Lent = record { log = c.loop-text.log; kept = c.loop-text.kept } in
    let all : all_printed (as_tracing c.loop-text.tracer) ≡ true = cc in
    sym (come text a.list.now a.picks.now lent (as_tracing c.loop-text.tracer) all) ∙ c.loop-text.invariant
