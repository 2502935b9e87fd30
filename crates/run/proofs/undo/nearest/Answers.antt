-- `run::undo::nearest` meets its contract: the first test that refuses decides. Assumes nothing.
use Prim.Native.Nat.{ℕ, ◌+◌, ◌*◌, ◌≤◌}
use mathlib.Core.Path.{◌≡◌, sym, ap, ◌∙◌}
use mathlib.Core.Bool.{Bool, true, false, ◌&&◌}
use mathlib.Core.List.{List}
use native.Mathlib.Omega.{arith}
use lib.Dec.{eqb, leb, ltb}
use lib.ListN.{length, drop}
use borrow.Author.Rules.{rules}
use borrow.Author.Tests.{eq-eqb, ne_eqb, le-leb, lt-ltb, ltb-false}
use Rattle.std.specs.Prelude.{Err}
use Rattle.rules.specs.Words.{each, judge, refusal}
use Rattle.rules.specs.Names.{STATE, max_kept, kept_length}
use Rattle.rules.specs.Records.{pick_at}
use Rattle.rules.specs.State.{State}
use Rattle.rules.specs.Lent.{Lent}
use Rattle.rules.specs.Kept.{kept_offset, kept_right}
use Rattle.rules.specs.Undo.{starts_right, nearest, before_replay}
use Rattle.laws.specs.Passed.{Known, KeptRoom}
use Rattle.laws.proofs.Passed.{lights_passed}
use Rattle.laws.proofs.Sound.{sound_means}
use Rattle.record.specs.Refusals.{number_of, told_number}
use Rattle.state.specs.View.{as_state}
use Rattle.picking.proofs.Refused.{not_none}
use Rattle.run.proofs.Judged.{unasked, missed, found}
use Rattle.run.proofs.Replays.{starts_counted, last_three, last_decide}
use Rattle.run.proofs.undo.nearest.Goals as goal
use Rattle.run.proofs.undo.nearest.Goals.{In_ok-judged, In_ok-back, Else-kept, then-short-via-then-short, then-short-via-else-short+then-not-right}

-- past the first tests the list and the state are sound
known : (c : In_ok-judged) → let a = c.args in Known a.list.now (as_state a.state.now)
known c = (lights_passed _ _).0 (sym c.in_ok-judged.ensures)

-- past the fourth the last three decide
decided : (c : Else-kept) → let a = c.args in
    let lent : Lent = record { log = a.log.now; kept = a.kept.now } in
    refusal (before_replay a.list.now (as_state a.state.now) lent) ≡ refusal (last_three a.list.now (as_state a.state.now) lent)
decided c = last_decide _ _ (record { log = c.args.log.now; kept = c.args.kept.now }) ((lights_passed _ _).0 (sym c.in_ok-judged.ensures)) c.if-state-eq0.false c.if-kept.false

-- the buffer has the kept place
has_place : (list : List ℕ) (s : State) (lent : Lent) → Known list s → KeptRoom lent → kept_offset (nearest s.m) + kept_length ≤ length lent.kept
has_place list s lent known room = omega (arith, ((sound_means list s).0 known.of_state).few_steps)

-- the start records tested are the list's
starts_tested : (list log : List ℕ) (s : State) → Known list s → ltb (length log) (2 * (s.n + s.m)) ≡ false → {right : Bool}
    → right ≡ (leb (2 * s.n) (length log) && each (λ j. eqb (pick_at log j).station j && leb (pick_at log j).reset s.b) s.n)
    → starts_right list s.b log ≡ right
starts_tested list log s known long is =
    let room = le-leb (2 * s.n) (length log) (omega (arith, ltb-false (length log) (2 * (s.n + s.m)) long)) in
    starts_counted list log s.b s.n ((sound_means list s).0 known.of_state).of_list ∙ sym (rw room at is)

pub returns-in_err-judged-clause-number : goal.returns-in_err-judged-clause-number
returns-in_err-judged-clause-number c =
    let a = c.args in
    let number = c.in_err-judged.field-0.0 in
    let lent : Lent = record { log = a.log.now; kept = a.kept.now } in
    let told : c.from_residual.result ≡ Err number = search rules in
    rw told (sym (unasked a.list.now (as_state a.state.now) c.in_err-judged.ensures (not_none number) (drop 2 (before_replay a.list.now (as_state a.state.now) lent))))

pub returns-then-state-eq0-clause-number : goal.returns-then-state-eq0-clause-number
unfolding judge
returns-then-state-eq0-clause-number c =
    let sound = known (goal.at.returns-then-state-eq0-clause-number c).In_ok-judged in
    rw (sound.of_list, sound.of_state, eq-eqb _ _ c.if-state-eq0.true)

pub returns-then-kept-clause-number : goal.returns-then-kept-clause-number
unfolding judge
returns-then-kept-clause-number c =
    let sound = known (goal.at.returns-then-kept-clause-number c).In_ok-judged in
    rw (sound.of_list, sound.of_state, ne_eqb _ _ c.if-state-eq0.false, lt-ltb _ (kept_length * max_kept) c.if-kept.true)

pub returns-then-short-clause-number : goal.returns-then-short-clause-number
unfolding judge
returns-then-short-clause-number c =
    let a = c.args in
    let past = (goal.at.returns-then-short-clause-number c).Else-kept in
    let sound = known (goal.at.returns-then-short-clause-number c).In_ok-judged in
    let none = eq-eqb (nearest a.state.now.m) 0 c.if-place-eq0.true in
    elim c.then-short.branch [
      | then-short-via-then-short w ↦ sym (decided past ∙ rw (none, sym c.log_short-short.ensures ∙ w.if-short.true))
      | then-short-via-else-short+then-not-right w ↦
          let long = sym c.log_short-short.ensures ∙ w.if-short.false in
          sym (decided past ∙ rw (none, long, starts_tested a.list.now a.log.now (as_state a.state.now) sound long w.right.ensures ∙ w.if-not-right.true))
    ]

pub begun-requires : goal.begun-requires
begun-requires c = (known (goal.at.begun-requires c).In_ok-judged).of_list

pub returns-then-place-eq0-clause-number : goal.returns-then-place-eq0-clause-number
unfolding judge
returns-then-place-eq0-clause-number c =
    let a = c.args in
    let long = sym c.log_short-short.ensures ∙ c.if-short.false in
    let sound = known (goal.at.returns-then-place-eq0-clause-number c).In_ok-judged in
    sym (decided (goal.at.returns-then-place-eq0-clause-number c).Else-kept
    ∙ rw (
      eq-eqb (nearest a.state.now.m) 0 c.if-place-eq0.true,
      long,
      starts_tested a.list.now a.log.now (as_state a.state.now) sound long c.right.ensures ∙ c.if-not-right.false,
    ))

pub in_place-requires : goal.in_place-requires
in_place-requires c =
    let a = c.args in
    let lent : Lent = record { log = a.log.now; kept = a.kept.now } in
    (omega (arith, c.if-place-eq0.false), has_place a.list.now (as_state a.state.now) lent (known (goal.at.in_place-requires c).In_ok-judged) c.if-kept.false)

pub returns-in_err-back-clause-number : goal.returns-in_err-back-clause-number
unfolding judge
returns-in_err-back-clause-number c =
    let a = c.args in
    let told : c.from_residual-in_err-back.result ≡ Err c.in_err-back.field-0.0 = search rules in
    let number : number_of c.in_err-back.field-0.0 ≡ STATE = ap told_number (rw c.in_err-back.ensures.ok_part at c.in_err-back.ensures.value) in
    let q = nearest a.state.now.m in
    rw (told, number)
    (sym (decided (goal.at.returns-in_err-back-clause-number c).Else-kept
    ∙ rw (ne_eqb q 0 c.if-place-eq0.false, missed as_state _ (kept_right a.list.now a.kept.now a.state.now.b q) _ c.in_place.ensures c.in_err-back.ensures.ok_part)))

-- the kept state that a replay begins with is right
right_there : (c : In_ok-back) → let a = c.args in kept_right a.list.now a.kept.now a.state.now.b (nearest a.state.now.m) ≡ true
right_there c = (found as_state _ _ _ _ c.in_place.ensures c.in_ok-back.ensures.ok_part).0

pub returns-then-short-2-clause-number : goal.returns-then-short-2-clause-number
unfolding judge
returns-then-short-2-clause-number c =
    sym (decided (goal.at.returns-then-short-2-clause-number c).Else-kept
    ∙ rw (
      ne_eqb (nearest c.args.state.now.m) 0 c.if-place-eq0.false,
      right_there (goal.at.returns-then-short-2-clause-number c).In_ok-back,
      sym c.log_short-short.ensures ∙ c.if-short-2.true,
    ))

pub returns-clause-number : goal.returns-clause-number
unfolding judge
returns-clause-number c =
    sym (decided (goal.at.returns-clause-number c).Else-kept
    ∙ rw (
      ne_eqb (nearest c.args.state.now.m) 0 c.if-place-eq0.false,
      right_there (goal.at.returns-clause-number c).In_ok-back,
      sym c.log_short-short.ensures ∙ c.if-short-2.false,
    ))
