-- `explaining::why` meets its contract, by what the station's readiness is. Assumes nothing.
use mathlib.Core.Path.{sym, ap, ◌∙◌}
use Rattle.rules.specs.Why.{bare, reason_by}
use Rattle.state.specs.View.{as_state}
use Rattle.laws.proofs.Sound.{at_most_eight}
use Rattle.asking.proofs.Answers.{passed}
use Rattle.explaining.proofs.Answers.{refused_said, taken_said, second_fits}
use Rattle.explaining.proofs.why.Goals as goal

pub returns-in-Ok-Ended : goal.returns-in-Ok-Ended
returns-in-Ok-Ended c =
    let e = c.in-Ok-Ended.ensures in
    let s = as_state c.args.state in
    let there = rw c.in-Ok-Ended.field-0-is at e.here in
    c.from.ensures ∙ taken_said _ s _ e.refused (ap (reason_by c.args.list.now s c.args.station) there)

pub of_waiting-requires : goal.of_waiting-requires
of_waiting-requires c =
    let e = c.in-Ok-Waiting.ensures in
    let there = rw c.in-Ok-Waiting.field-0-is at e.here in
    second_fits _ (as_state c.args.state) _ (passed _ (as_state c.args.state) _ e.refused).0 _ (sym there)

pub returns-in-Ok-Waiting : goal.returns-in-Ok-Waiting
returns-in-Ok-Waiting c =
    let e = c.in-Ok-Waiting.ensures in
    let s = as_state c.args.state in
    let there = rw c.in-Ok-Waiting.field-0-is at e.here in
    c.from-in-Ok-Waiting.ensures ∙ taken_said _ s _ e.refused (c.of_waiting.ensures ∙ ap (reason_by c.args.list.now s c.args.station) there)

pub of_ready-requires : goal.of_ready-requires
of_ready-requires c = at_most_eight (passed _ (as_state c.args.state) c.args.station c.in-Ok-Ready.ensures.refused).0

pub returns-in-Ok-Ready : goal.returns-in-Ok-Ready
returns-in-Ok-Ready c =
    let e = c.in-Ok-Ready.ensures in
    let s = as_state c.args.state in
    let there = rw c.in-Ok-Ready.field-0-is at e.here in
    c.from-in-Ok-Ready.ensures ∙ taken_said _ s _ e.refused (c.of_ready.ensures ∙ ap (reason_by c.args.list.now s c.args.station) there)

pub returns-in-Err : goal.returns-in-Err
returns-in-Err c = c.bare.ensures ∙ ap bare c.number.ensures ∙ refused_said _ _ _ c.in-Err.refusal c.in-Err.ensures.refused
