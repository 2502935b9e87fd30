-- `asking::asked` meets its contract: the tests in their order, and then the record where the station stands. Assumes nothing.
use Rattle.std.proofs.Common.{Err}
use mathlib.Core.Path.{◌≡◌, sym, ◌∙◌}
use borrow.Author.Rules.{rules}
use native.Mathlib.Omega.{arith}
use Rattle.state.specs.View.{as_state}
use Rattle.laws.proofs.Passed.{lights_passed}
use Rattle.laws.proofs.Sound.{at_most_eight}
use Rattle.laws.proofs.Ready.{readiness_here}
use Rattle.asking.proofs.Answers.{refused_before, refused_station, taken}
use Rattle.asking.proofs.asked.Goals as goal

pub returns-in_err-judged-clause-refused : goal.returns-in_err-judged-clause-refused
returns-in_err-judged-clause-refused c =
    let told : c.from_residual.result ≡ Err c.in_err-judged.field-0.0 = search rules in
    rw told (refused_before _ _ _ c.in_err-judged.field-0.0 c.in_err-judged.ensures)

pub returns-then-state-station-clause-refused : goal.returns-then-state-station-clause-refused
returns-then-state-station-clause-refused c = refused_station _ _ _ c.in_ok-judged.ensures (omega arith)

pub bounds-state-station : goal.bounds-state-station
bounds-state-station c = omega (arith, at_most_eight ((lights_passed c.args.list.now (as_state c.args.state.now)).0 (sym c.in_ok-judged.ensures)))

pub returns-clause-refused : goal.returns-clause-refused
returns-clause-refused c = taken _ _ _ c.in_ok-judged.ensures c.if-state-station.false

pub returns-clause-here : goal.returns-clause-here
returns-clause-here c =
    let s = as_state c.args.state.now in
    rw c.at-e.ensures at c.at.ensures ∙ sym (readiness_here c.args.list.now s c.args.station c.if-state-station.false)
