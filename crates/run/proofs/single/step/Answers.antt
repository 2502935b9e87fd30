-- `run::single::step` meets its contract: the list and the state are tested first. Assumes nothing.
use mathlib.Core.Path.{◌≡◌, sym, ◌∙◌}
use Rattle.std.specs.Prelude.{Err}
use borrow.Author.Rules.{rules}
use Rattle.rules.specs.Lent.{Lent}
use Rattle.laws.proofs.Passed.{lights_passed}
use Rattle.state.specs.View.{as_state}
use Rattle.picking.proofs.Refused.{not_none}
use Rattle.stepping.proofs.Known.{logged_known}
use Rattle.run.proofs.Judged.{step_unasked}
use Rattle.run.proofs.single.step.Goals as goal

pub returns-in_err-judged : goal.returns-in_err-judged
returns-in_err-judged c =
    let a = c.args in
    let refusal = c.in_err-judged.field-0.0 in
    let told : c.from_residual.result ≡ Err refusal = search rules in
    let lent : Lent = record { log = a.log.now; kept = a.kept.now } in
    rw told (step_unasked a.list.now (as_state a.state.now) c.in_err-judged.ensures (not_none refusal) lent _)

pub returns : goal.returns
returns c =
    let a = c.args in
    let known = (lights_passed a.list.now (as_state a.state.now)).0 (sym c.in_ok-judged.ensures) in
    c.logged.ensures ∙ logged_known _ _ _ _ known c.requires
