-- `stepping::logged` meets its contract: past FULL and ROOM a step is its pick, the pick's record in the log, and the state in its kept place.
-- Assumes nothing.
use Prim.Native.Nat.{ℕ, ◌<◌, ◌+◌, ◌*◌, ◌/◌, ◌≤◌}
use mathlib.Core.Path.{◌≡◌, refl, sym, ap, ◌∙◌}
use mathlib.Core.Bool.{true}
use native.Mathlib.Omega.{arith}
use mathlib.Core.List.{List}
use lib.ListN.{length}
use Rattle.std.specs.Prelude.{Err}
use borrow.Author.Rules.{rules}
use borrow.Author.Tests.{le-leb, lt-leb, lt-ltb, le-ltb, leb-true, leb-false}
use Rattle.rules.specs.Words.{judge, refusal}
use Rattle.rules.specs.Names.{max_steps, max_kept, kept_every, kept_length}
use Rattle.rules.specs.State.{State}
use Rattle.rules.specs.Lent.{Lent}
use Rattle.rules.specs.Kept.{kept_offset}
use Rattle.state.specs.View.{as_state}
use Rattle.picking.proofs.Refused.{not_none}
use Rattle.rules.specs.Step.{Picked}
use Rattle.laws.proofs.Choice.{both}
use Rattle.keeping.specs.Place.{has_place}
use Rattle.stepping.specs.Logged.{room_left, logged}
use Rattle.stepping.proofs.Past.{past_taken, past_refused}
use Rattle.stepping.proofs.logged.Goals as goal

-- where no test of room refuses, the state after the step has its kept place
placed : (m : ℕ) (kept : List ℕ) → m < max_steps → kept_length * max_kept ≤ length kept → has_place (m + 1) kept ≡ true
placed m kept few long =
    both (le-leb 1 (m + 1) (omega arith))
    (le-leb (kept_offset ((m + 1) / kept_every) + kept_length) (length kept) (omega (arith, few, long)))

-- and none of them refuses it
room_there : (s : State) (lent : Lent) → s.m < max_steps → 2 * (s.n + s.m + 1) ≤ length lent.log → kept_length * max_kept ≤ length lent.kept →
    refusal (room_left s lent) ≡ 0
unfolding judge
room_there s lent few room long =
    rw (lt-leb max_steps s.m few, le-ltb _ _ room, le-ltb _ (kept_length * max_kept) long)

pub returns-then-state-ge-MAX_STEPS : goal.returns-then-state-ge-MAX_STEPS
unfolding logged judge
returns-then-state-ge-MAX_STEPS c = rw (le-leb _ _ c.if-state-ge-MAX_STEPS.true)

pub returns-then-not-room : goal.returns-then-not-room
unfolding logged judge
returns-then-not-room c =
    let a = c.args in
    rw (
      lt-leb max_steps a.state.now.m (omega arith),
      lt-ltb (length a.log.now) (2 * (a.state.now.n + a.state.now.m + 1)) (leb-false _ _ (sym c.room.ensures ∙ c.if-not-room.true)),
    )

pub returns-then-kept : goal.returns-then-kept
unfolding logged judge
returns-then-kept c =
    rw (
      lt-leb max_steps c.args.state.now.m (omega arith),
      le-ltb _ _ (leb-true _ _ (sym c.room.ensures ∙ c.if-not-room.false)),
      lt-ltb _ (kept_length * max_kept) c.if-kept.true,
    )

pub returns-in_err-pick : goal.returns-in_err-pick
returns-in_err-pick c =
    let a = c.args in
    let room = leb-true _ _ (sym c.room.ensures ∙ c.if-not-room.false) in
    let told : c.from_residual.result ≡ Err c.in_err-pick.field-0.0 = search rules in
    rw told (past_refused _ _ _ _
    (room_there (as_state a.state.now) (record { log = a.log.now; kept = a.kept.now }) (omega arith) room c.if-kept.false)
    c.in_err-pick.ensures (not_none c.in_err-pick.field-0.0))

pub returns : goal.returns
returns c =
    let a = c.args in
    let room = leb-true _ _ (sym c.room.ensures ∙ c.if-not-room.false) in
    let left = c.pick.new.state in
    let same_n : left.n ≡ a.state.now.n = ap (λ (t : Picked). t.state.n) c.in_ok-pick.ensures in
    let same_m : left.m ≡ a.state.now.m = ap (λ (t : Picked). t.state.m) c.in_ok-pick.ensures in
    let fits : 2 * (left.n + left.m + 1) ≤ length a.log.now = omega (arith, same_n, same_m, room) in
    let written = rw (le-leb _ _ fits) at c.put.ensures in
    let keeps = rw (placed left.m a.kept.now (omega (arith, same_m)) c.if-kept.false) at c.keep.ensures in
    past_taken _ _ _ _
    (room_there (as_state a.state.now) (record { log = a.log.now; kept = a.kept.now }) (omega arith) room c.if-kept.false)
    c.in_ok-pick.ensures refl written keeps
