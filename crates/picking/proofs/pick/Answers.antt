-- `picking::pick` meets its contract. Assumes nothing.
use mathlib.Core.Path.{◌≡◌, ◌∙◌, refl, sym}
use mathlib.Core.Bool.{true, false, not, false≢true}
use mathlib.Core.List.{[], ◌∷◌}
use lib.Dec.{ltb}
use lib.ListN.{get_or}
use Rattle.std.specs.Prelude.{Err}
use Prim.Native.Nat.{◌≤◌, ◌<◌, min}
use native.Mathlib.Omega.{arith}
use mir.Syntax.{w16}
use mir.ValLaws.{to_z-of_z}
use borrow.Author.Rules.{rules}
use borrow.Author.Tests.{le-ltb, lt-ltb}
use Rattle.rules.specs.Words.{judge, refusal, ◌refuses◌at◌}
use Rattle.rules.specs.Names.{TURN, RESET, max_stations}
use Rattle.rules.specs.State.{priority_in}
use Rattle.rules.specs.Step.{pick_tests}
use Rattle.record.specs.View.{as_pick}
use Rattle.state.specs.View.{as_state}
use Rattle.laws.specs.Narrow.{narrow}
use Rattle.picking.specs.Took.{state_of, took}
use Rattle.picking.proofs.Judged.{s, absent_is, refused_by, refused_is, refused_after, charged, counted}
use Rattle.picking.proofs.pick.Goals as goal
use Rattle.picking.proofs.pick.Goals.{then-state-pick-via-then-state-pick, then-state-pick-via-else-state-pick+then-at-ge-MAX_STATIONS, Joined-not-all-at, then-not-all-at+in_ok-told_from, else-not-all-at}

-- a station that the list has not is refused
pub returns-then-state-pick : goal.returns-then-state-pick
returns-then-state-pick c =
    let a = c.args in
    absent_is a.list.now (as_state a.state.now) (as_pick a.pick)
    (elim c.then-state-pick.branch [
      | then-state-pick-via-then-state-pick w ↦ omega arith
      | then-state-pick-via-else-state-pick+then-at-ge-MAX_STATIONS w ↦ omega arith
    ])

-- one that is not ready, by what its readiness tells
pub returns-in_err-told_from : goal.returns-in_err-told_from
returns-in_err-told_from c =
    let a = c.args in
    let told : c.from_residual.result ≡ Err c.in_err-told_from.field-0.0 = search rules in
    rw told (refused_by a.list.now (as_state a.state.now) (as_pick a.pick) c.judge-lowest.ensures.0 (omega arith) c.if-not-all-at.true c.in_err-told_from.ensures).1

-- past that it is ready
ready_at : (c : Joined-not-all-at) → get_or c.judge-lowest.new.all c.args.pick.station false ≡ true
ready_at c =
    let a = c.args in
    elim c.if-not-all-at.branch [
      | then-not-all-at+in_ok-told_from w ↦
          absurd (false≢true (sym (refused_by a.list.now (as_state a.state.now) (as_pick a.pick) c.judge-lowest.ensures.0 (omega arith)
          w.if-not-all-at.true w.in_ok-told_from.ensures).0))
      | else-not-all-at w ↦ w.if-not-all-at.false
    ]

-- and the turn and the reset decide
after : (c : Joined-not-all-at) → let a = c.args in
    refusal (pick_tests (narrow a.list.now) (s a.list.now (as_state a.state.now) (as_pick a.pick)) (as_pick a.pick))
    ≡ refusal ((not c.judge-lowest.result refuses TURN at 0) ∷ (ltb a.state.now.b a.pick.reset refuses RESET at 0) ∷ [])
after c =
    let a = c.args in
    let own = to_z-of_z w16 (priority_in a.state.now.priorities a.pick.station) (search rules) in
    refused_after a.list.now (as_state a.state.now) (as_pick a.pick) c.judge-lowest.ensures.0 (omega arith) (ready_at c) (rw own at c.judge-lowest.ensures.1)

pub returns-then-not-lowest : goal.returns-then-not-lowest
unfolding judge
returns-then-not-lowest c =
    let a = c.args in
    refused_is a.list.now (as_state a.state.now) (as_pick a.pick)
    (after (goal.at.returns-then-not-lowest c).Joined-not-all-at ∙ rw c.if-not-lowest.true) refl

pub returns-then-state-pick-2 : goal.returns-then-state-pick-2
unfolding judge
returns-then-state-pick-2 c =
    let a = c.args in
    refused_is a.list.now (as_state a.state.now) (as_pick a.pick)
    (after (goal.at.returns-then-state-pick-2 c).Joined-not-all-at ∙ rw (c.if-not-lowest.false, lt-ltb _ _ c.if-state-pick-2.true)) refl

-- past all tests, the charge is by the readiness before the step, and the move is of the parts given
pub returns : goal.returns
unfolding judge took
returns c =
    let a = c.args in
    rw (
      after (goal.at.returns c).Joined-not-all-at,
      c.if-not-lowest.false,
      le-ltb _ _ c.if-state-pick-2.false,
      c.charge.ensures.0,
      c.charge.ensures.1,
      charged a.list.now (as_state a.state.now) (as_pick a.pick) c.judge-lowest.ensures.0 (omega arith),
      counted a.list.now (as_state a.state.now) (as_pick a.pick) c.judge-lowest.ensures.0 (omega arith),
      c.step.ensures.0,
      c.step.ensures.1,
    )
