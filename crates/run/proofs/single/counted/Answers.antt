-- `run::single::counted` meets its contract. The loop's invariant: the state is of a state's lengths and sound, and the steps to come, counted on
-- from those taken, answer what the whole does. Assumes nothing.
use Prim.Native.Nat.{◌-◌}
use mathlib.Core.Path.{◌≡◌, sym, ap, ◌∙◌}
use native.Mathlib.Omega.{arith}
use borrow.Author.Tests.{eqb-false}
use Rattle.rules.specs.Records.{pick_at}
use Rattle.rules.specs.Lent.{Lent}
use Rattle.rules.specs.Step.{Stepped}
use Rattle.laws.specs.Passed.{Known}
use Rattle.fair.proofs.Held.{step_held}
use Rattle.fair.proofs.Kept.{step_sound}
use Rattle.record.specs.Refusals.{number_of}
use Rattle.state.specs.View.{as_state}
use Rattle.picking.proofs.Refused.{not_none}
use Rattle.stepping.proofs.Known.{logged_known}
use Rattle.run.proofs.Runs.{logged_b, counted_none, run_ended, run_taken, run_refused}
use Rattle.run.proofs.single.counted.Goals as goal
use Rattle.run.proofs.single.counted.Goals.{In-loop-steps}

pub loop-steps-init : goal.loop-steps-init
loop-steps-init c =
    let all : c.args.count - 0 ≡ c.args.count = omega arith in
    record { held = c.requires.1; small = c.requires.2; sound = c.requires.0.of_state; to_come = rw all (counted_none _) }

-- the step of a turn is the rules'
known : (c : In-loop-steps) → Known c.args.list.now (as_state c.loop-steps.state)
known c = record { of_list = c.requires.0.of_list; of_state = c.loop-steps.invariant.sound }

pub loop-steps-preserved : goal.loop-steps-preserved
loop-steps-preserved c =
    let list = c.args.list.now in
    let picks = c.args.picks.now in
    let at = c.loop-steps in
    let s = as_state at.state in
    let lent : Lent = record { log = at.log; kept = at.kept } in
    let p = pick_at picks at.steps in
    let e = rw c.at.ensures at c.in_default.ensures ∙ logged_known list s lent p (known (goal.at.loop-steps-preserved c).In-loop-steps) at.invariant.small in
    let same : c.logged.new.state.b ≡ s.b = ap (λ (a : Stepped). a.state.b) c.in_default.ensures ∙ logged_b list s lent _ in
    record {
      held = rw (← e) at (step_held list s lent p at.invariant.held);
      small = omega (arith, same, at.invariant.small);
      sound = rw (← e) at (step_sound list s lent p at.invariant.held at.invariant.sound);
      to_come = at.invariant.to_come
          ∙ rw (← e) at (run_taken list picks c.args.count at.steps s lent c.loop-steps-test.true (sym (ap (λ (a : Stepped). a.number) e)));
    }

pub returns-in-Err : goal.returns-in-Err
returns-in-Err c =
    let list = c.args.list.now in
    let picks = c.args.picks.now in
    let at = c.loop-steps in
    let s = as_state at.state in
    let lent : Lent = record { log = at.log; kept = at.kept } in
    let p = pick_at picks at.steps in
    let refusal = c.in-Err.refusal in
    let e = rw c.at.ensures at c.in-Err.ensures ∙ logged_known list s lent p (known (goal.at.returns-in-Err c).In-loop-steps) at.invariant.small in
    sym (at.invariant.to_come
    ∙ rw (← e) at (run_refused list picks c.args.count at.steps s lent c.loop-steps-test.true
    (λ z. eqb-false (number_of refusal) 0 (not_none refusal) (ap (λ (a : Stepped). a.number) e ∙ z))))

pub returns : goal.returns
returns c =
    let e : c.loop-steps.steps ≡ c.args.count = omega arith in
    rw (c.loop-steps.invariant.to_come, e) (sym (run_ended _ _ _ _ _))
