-- `run::undo::undo` meets its contract. Assumes nothing.
use Prim.Native.Nat.{ℕ, ◌+◌, ◌-◌, ◌*◌, ◌<◌}
use mathlib.Core.Path.{◌≡◌, sym, ap, ◌∙◌}
use mathlib.Core.List.{List}
use native.Mathlib.Omega.{arith}
use borrow.Author.Rules.{rules}
use borrow.Author.Tests.{eq-eqb, eqb-false}
use Rattle.std.specs.Prelude.{Err}
use Rattle.rules.specs.Names.{kept_every}
use Rattle.rules.specs.State.{State}
use Rattle.rules.specs.Lent.{Lent}
use Rattle.rules.specs.Step.{Picked}
use Rattle.rules.specs.Undo.{Undone, nearest, nearest_state, replayed_near}
use Rattle.laws.specs.Parts.{of_parts}
use Rattle.laws.specs.Passed.{CanReplay}
use Rattle.laws.proofs.Passed.{replay_passed}
use Rattle.laws.proofs.Answers.{undo_refused_before}
use Rattle.laws.proofs.Sound.{sound_means, few_stations}
use Rattle.record.specs.Refusals.{number_of, told_number}
use Rattle.state.specs.View.{as_state}
use Rattle.picking.specs.Took.{Took, with_parts}
use Rattle.picking.proofs.Refused.{not_none}
use Rattle.replaying.specs.Replayed.{took_from, took_of, as_took}
use Rattle.run.proofs.Judged.{told_err, told_ok}
use Rattle.run.proofs.Replays.{counted, near_n, near_b, near_took, undo_took}
use Rattle.run.proofs.undo.undo.Goals as goal
use Rattle.run.proofs.undo.undo.Goals.{In_ok-back}

-- where the tests before the replay do not refuse
passed : (c : In_ok-back) → let a = c.args in
    CanReplay a.list.now (as_state a.state.now) (record { log = a.log.now; kept = a.kept.now })
passed c = (replay_passed _ _ _).0 (sym c.in_ok-back.ensures.number)

-- the parts that a replay from the state found reaches
abbrev reached : List ℕ → State → State → Lent → Took
reached list s found lent =
    let q = nearest s.m in
    took_from list lent.log found.n found.b (s.n + kept_every * q) (s.m - 1 - kept_every * q) (took_of 0 found)

-- are those that undo asks for
asked : (list : List ℕ) (s found : State) (lent : Lent) → CanReplay list s lent → s.b < 256
    → found ≡ nearest_state list lent s.b (nearest s.m) → reached list s found lent ≡ as_took (replayed_near list lent s.b s.m)
asked list s found lent can small held =
    ap (λ (f : State). reached list s f lent) held ∙ near_took list s lent can small

pub returns-in_err-back : goal.returns-in_err-back
returns-in_err-back c =
    let a = c.args in
    let refusal = c.in_err-back.field-0.0 in
    let number = c.in_err-back.ensures.number in
    let lent : Lent = record { log = a.log.now; kept = a.kept.now } in
    let told : c.from_residual.result ≡ Err refusal = search rules in
    rw (told, undo_refused_before a.list.now (as_state a.state.now) lent (λ none. eqb-false (number_of refusal) 0 (not_none refusal) (number ∙ none)), ← number)

pub overflow_sub-target : goal.overflow_sub-target
overflow_sub-target c = omega (arith, (passed (goal.at.overflow_sub-target c).In_ok-back).some_steps)

pub overflow_add-first : goal.overflow_add-first
overflow_add-first c =
    let can = passed (goal.at.overflow_add-first c).In_ok-back in
    omega (arith, ((sound_means _ _).0 can.of_state).few_steps, counted _ _ _ can, few_stations _ can.of_list)

pub returns-then-is_err : goal.returns-then-is_err
returns-then-is_err c =
    let a = c.args in
    let s = as_state a.state.now in
    let lent : Lent = record { log = a.log.now; kept = a.kept.now } in
    let can = passed (goal.at.returns-then-is_err c).In_ok-back in
    let t = reached a.list.now s (as_state c.in_ok-back.back) lent in
    let told : told_number c.replay.result ≡ t.number = ap (λ (u : Picked). u.number) c.replay.ensures in
    rw (
      undo_took a.list.now s lent can (asked a.list.now s (as_state c.in_ok-back.back) lent can c.requires c.in_ok-back.ensures.state),
      rw told at (told_err c.replay.result (sym c.is_err.ensures.value ∙ c.if-is_err.true)),
    )

pub returns : goal.returns
returns c =
    let a = c.args in
    let s = as_state a.state.now in
    let near = as_state c.in_ok-back.back in
    let lent : Lent = record { log = a.log.now; kept = a.kept.now } in
    let can = passed (goal.at.returns c).In_ok-back in
    let t = reached a.list.now s near lent in
    let told : told_number c.replay.result ≡ t.number = ap (λ (u : Picked). u.number) c.replay.ensures in
    let parts : as_state c.replay.new.state ≡ with_parts near t = ap (λ (u : Picked). u.state) c.replay.ensures in
    let n_is : near.n ≡ s.n = ap (λ (f : State). f.n) c.in_ok-back.ensures.state ∙ near_n a.list.now s lent can in
    let b_is : near.b ≡ s.b = ap (λ (f : State). f.b) c.in_ok-back.ensures.state ∙ near_b a.list.now s lent can in
    let left : State → Undone = λ f. record { number = 0; state = of_parts f.vars f.positions f.priorities f.counts f.n f.b (s.m - 1) } in
    rw (
      undo_took a.list.now s lent can (asked a.list.now s near lent can c.requires c.in_ok-back.ensures.state),
      eq-eqb t.number 0 (sym told ∙ told_ok c.replay.result (sym c.is_err.ensures.value ∙ c.if-is_err.false)),
    )
    (ap left parts ∙ (λ i. record { number = 0; state = of_parts t.vars t.positions t.priorities t.counts (n_is i) (b_is i) (s.m - 1) }))
