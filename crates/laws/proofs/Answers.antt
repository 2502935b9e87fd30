-- What each call answers: the number is that of the first test that refuses; taken, it answers this, and refused, that. Assumes nothing.
use Rattle.std.specs.Prelude.{if◌then◌else◌}
use mathlib.Core.Path.{◌≡◌, refl, sym, ap, ◌∙◌}
use mathlib.Core.Bool.{false}
use mathlib.Core.List.{List}
use Prim.Native.Nat.{ℕ}
use borrow.Author.Tests.{eq-eqb, ne_eqb}
use lib.Dec.{eqb}
use Rattle.rules.specs.Words.{Answer, judge, refusal}
use Rattle.rules.specs.Names.{LOG}
use Rattle.rules.specs.Records.{Pick}
use Rattle.rules.specs.Build.{Built, build_tests, build}
use Rattle.rules.specs.State.{State}
use Rattle.rules.specs.Lent.{Lent}
use Rattle.rules.specs.Start.{started, with_starts, Started, start_tests, start}
use Rattle.rules.specs.Step.{stepped, with_step, pick_tests, Picked, picked, step_tests, Stepped, step}
use Rattle.rules.specs.Undo.{Undone, replayed_near, before_replay, replay_tests, undo_tests, undo}
use Rattle.rules.specs.Lights.{Lights, lights_tests, lights}
use Rattle.laws.specs.Passed.{CanStart, CanStep, CanPick, CanReplay, CanUndo}
use Rattle.laws.proofs.Choice.{by_test}
use Rattle.laws.proofs.Judge.{unrefused, judge_then, judge_before, answer_number}
use Rattle.laws.proofs.Passed.{start_passed, pick_passed, step_passed, step_tests_pick, replay_passed, undo_passed}

pub build_number : (file buffer : List ℕ) → (build file buffer).number ≡ refusal (build_tests file buffer)
unfolding build
build_number file buffer = answer_number (λ (a : Built). a.number) (refusal (build_tests file buffer)) _ _ refl refl

module _ (list : List ℕ) (b : ℕ) (resets : List ℕ) (lent : Lent) where
  pub start_number : (start list b resets lent).number ≡ refusal (start_tests list b resets lent)
  unfolding start
  start_number = answer_number (λ (a : Started). a.number) (refusal (start_tests list b resets lent)) _ _ refl refl

  pub start_can : (start list b resets lent).number ≡ 0 → CanStart list b resets lent
  start_can h = (start_passed list b resets lent).0 (sym start_number ∙ h)

  pub start_state : (start list b resets lent).number ≡ 0 → (start list b resets lent).state ≡ started list b resets
  unfolding start
  start_state h = rw (eq-eqb _ 0 (sym start_number ∙ h))

  pub start_written : (start list b resets lent).number ≡ 0 → (start list b resets lent).lent ≡ with_starts lent resets
  unfolding start
  start_written h = rw (eq-eqb _ 0 (sym start_number ∙ h))

  pub start_leaves : eqb (start list b resets lent).number 0 ≡ false → (start list b resets lent).lent ≡ lent
  unfolding start
  start_leaves h = rw (rw start_number at h)

module _ (list : List ℕ) (s : State) (p : Pick) where
  pub picked_number : (picked list s p).number ≡ refusal (pick_tests list s p)
  unfolding picked
  picked_number = answer_number (λ (a : Picked). a.number) (refusal (pick_tests list s p)) _ _ refl refl

  pub picked_can : (picked list s p).number ≡ 0 → CanPick list s p
  picked_can h = (pick_passed list s p).0 (sym picked_number ∙ h)

  pub picked_state : (picked list s p).number ≡ 0 → (picked list s p).state ≡ stepped list s p
  unfolding picked
  picked_state h = rw (eq-eqb _ 0 (sym picked_number ∙ h))

  pub picked_leaves : eqb (picked list s p).number 0 ≡ false → (picked list s p).state ≡ s
  unfolding picked
  picked_leaves h = rw (rw picked_number at h)

module _ (list : List ℕ) (s : State) (lent : Lent) (p : Pick) where
  pub step_number : (step list s lent p).number ≡ refusal (step_tests list s lent p)
  unfolding step
  step_number = answer_number (λ (a : Stepped). a.number) (refusal (step_tests list s lent p)) _ _ refl refl

  pub step_can : (step list s lent p).number ≡ 0 → CanStep list s lent × CanPick list s p
  step_can h = (step_passed list s lent p).0 (sym step_number ∙ h)

  -- a step that is taken is a pick that is
  pub step_picks : (step list s lent p).number ≡ 0 → (picked list s p).number ≡ 0
  step_picks h = picked_number list s p ∙ (pick_passed list s p).1 (step_can h).1

  pub step_state : (step list s lent p).number ≡ 0 → (step list s lent p).state ≡ stepped list s p
  unfolding step
  step_state h = rw (eq-eqb _ 0 (sym step_number ∙ h)) (picked_state list s p (step_picks h))

  pub step_written : (step list s lent p).number ≡ 0 → (step list s lent p).lent ≡ with_step lent s p (step list s lent p).state
  unfolding step
  step_written h = rw (eq-eqb _ 0 (sym step_number ∙ h))

  -- refused, a step answers the state given and leaves what is lent
  pub step_refused : eqb (step list s lent p).number 0 ≡ false → (step list s lent p).state ≡ s
  unfolding step
  step_refused h = rw (rw step_number at h)

  pub step_leaves : eqb (step list s lent p).number 0 ≡ false → (step list s lent p).lent ≡ lent
  unfolding step
  step_leaves h = rw (rw step_number at h)

  -- where a step is not refused before its pick, it is the pick, and the pick's record in the log
  pub step_picked : CanStep list s lent
      → step list s lent p
      ≡ record {
        number = (picked list s p).number;
        state = (picked list s p).state;
        lent = if eqb (picked list s p).number 0 then with_step lent s p (picked list s p).state else lent;
      }
  unfolding step picked
  step_picked can =
      let same = step_tests_pick list s lent p can in
      by_test (eqb (refusal (pick_tests list s p)) 0) (λ e. rw (same, e)) (λ e. rw (same, e, e))

module _ (list : List ℕ) (s : State) (lent : Lent) where
  pub undo_number : (undo list s lent).number ≡ refusal (undo_tests list s lent)
  unfolding undo
  undo_number = answer_number (λ (a : Undone). a.number) (refusal (undo_tests list s lent)) _ _ refl refl

  pub undo_can : (undo list s lent).number ≡ 0 → CanUndo list s lent
  undo_can h = (undo_passed list s lent).0 (sym undo_number ∙ h)

  pub undo_state : (undo list s lent).number ≡ 0 → (undo list s lent).state ≡ (replayed_near list lent s.b s.m).state
  unfolding undo
  undo_state h = rw (eq-eqb _ 0 (sym undo_number ∙ h))

  pub undo_refused : eqb (undo list s lent).number 0 ≡ false → (undo list s lent).state ≡ s
  unfolding undo
  undo_refused h = rw (rw undo_number at h)

  -- an undo refused before its replay
  pub undo_refused_before : (refusal (before_replay list s lent) ≡ 0 → ⊥)
      → undo list s lent ≡ record { number = refusal (before_replay list s lent); state = s }
  unfolding undo
  undo_refused_before h =
      let same = ap (λ (a : Answer). a.number) (judge_before (before_replay list s lent) (replay_tests list s lent) h) in
      rw (same, ne_eqb _ 0 h)

  -- and one that its replay decides
  pub undo_replayed : CanReplay list s lent
      → undo list s lent
      ≡ (if eqb (replayed_near list lent s.b s.m).number 0
      then record { number = 0; state = (replayed_near list lent s.b s.m).state }
      else record { number = LOG; state = s })
  unfolding undo judge
  undo_replayed can =
      let same = ap (λ (a : Answer). a.number) (judge_then (before_replay list s lent) (replay_tests list s lent)
      ((unrefused (before_replay list s lent) refl).0 ((replay_passed list s lent).1 can))) in
      by_test (eqb (replayed_near list lent s.b s.m).number 0) (λ e. rw (same, e)) (λ e. rw (same, e))

pub lights_number : (list : List ℕ) (s : State) → (lights list s).number ≡ refusal (lights_tests list s)
unfolding lights
lights_number list s = answer_number (λ (a : Lights). a.number) (refusal (lights_tests list s)) _ _ refl refl
