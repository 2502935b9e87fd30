-- What STEP answers of a station, by the reason that is given of it. Assumes nothing.
use Rattle.std.specs.Prelude.{if◌then◌else◌}
use mathlib.Core.Path.{◌≡◌, refl, sym, ap, ◌∙◌}
use mathlib.Core.Bool.{Bool, true, false, not}
use mathlib.Core.List.{List, [], ◌∷◌}
use Prim.Native.Nat.{ℕ, ◌+◌, ◌*◌, ◌≤◌, zero-le}
use native.Mathlib.Omega.{arith}
use borrow.Author.Tests.{le-ltb}
use lib.Dec.{eqb, ltb}
use lib.ListN.{replicate, length-replicate}
use Rattle.rules.specs.Words.{◌refuses◌at◌, judge, refusal}
use Rattle.rules.specs.Names.{TURN, RESET, max_kept, kept_length}
use Rattle.rules.specs.Records.{Pick, list_record_at}
use Rattle.rules.specs.State.{State}
use Rattle.rules.specs.Lent.{Lent}
use Rattle.rules.specs.Ready.{Readiness, is_ready, has_ended, waits_at, is_absent, told, readiness, lowest}
use Rattle.rules.specs.Why.{Why, may_be_picked, said, waits_for, reason_by, reason, why}
use Rattle.laws.specs.Passed.{Known, CanStep}
use Rattle.laws.proofs.Choice.{by_test}
use Rattle.laws.proofs.Passed.{step_tests_pick}
use Rattle.laws.proofs.Answers.{step_number, step_can}
use Rattle.laws.proofs.Told.{pick_told}
use Rattle.fair.proofs.Taken.{pick_allowed}
use Rattle.explained.specs.Tells.{Steps, StepSays, StepsSay, RoomThere}
use Rattle.explained.proofs.True.{why_said, true_reasons}

-- the last two tests of a pick, where the reset is at most B
in_turn_or_not : (low : Bool) → refusal ((not low refuses TURN at 0) ∷ (false refuses RESET at 0) ∷ []) ≡ (if low then 0 else TURN)
unfolding judge
in_turn_or_not true = refl
in_turn_or_not false = refl

module _ (list : List ℕ) (s : State) (j : ℕ) where
  -- the number of a reason, by the readiness
  reason_number : (r : Readiness)
      → (said (reason_by list s j r)).number ≡ (if eqb (told r).number 0 then (if lowest list s j then 0 else TURN) else (told r).number)
  unfolding waits_for
  reason_number is_ready = by_test (lowest list s j) (λ e. rw e) (λ e. rw e)
  reason_number has_ended = refl
  reason_number (waits_at p) = by_test (ltb (list_record_at list p).own.op 4) (λ e. rw e) (λ e. rw e)
  reason_number is_absent = refl

module _ (list : List ℕ) (s : State) (lent : Lent) (j : ℕ) (can : CanStep list s lent) where
  known : Known list s
  known = record { of_list = can.of_list; of_state = can.of_state }

  same_number : (reset : ℕ) → reset ≤ s.b → Steps list s lent j reset (why list s j).number
  unfolding reason
  same_number reset within =
      let p : Pick = record { station = j; reset = reset } in
      let last = in_turn_or_not (lowest list s j) in
      step_number list s lent p ∙ step_tests_pick list s lent p can ∙ pick_told list s p
      ∙ rw (le-ltb s.b reset within, last) (sym (reason_number list s j (readiness list s j)))
      ∙ sym (ap (λ (a : Why). a.number) (why_said list s j known))

  step_says : StepSays why list s lent j
  step_says =
      let every : why list s j ≡ said may_be_picked → (reset : ℕ) → reset ≤ s.b → Steps list s lent j reset 0 =
      λ h reset within. same_number reset within ∙ ap (λ (a : Why). a.number) h in
      record {
        some_reset = (
          λ h. (0, every h 0 zero-le),
          λ h. let p : Pick = record { station = j; reset = h.0 } in
              (true_reasons list s j known may_be_picked).1 ((pick_allowed list s p).0 (step_can list s lent p h.1).1).0,
        );
        every_reset = every;
        same_number = same_number;
      }

pub steps_say : StepsSay why
steps_say = step_says

pub room_there : RoomThere
room_there list s sound few =
    let lent : Lent = record { log = replicate (2 * (s.n + s.m + 1)) 0; kept = replicate (kept_length * max_kept) 0 } in (
      lent,
      record {
        of_list = sound.of_list;
        of_state = sound.of_state;
        steps_left = few;
        room = rw (length-replicate {A = ℕ} (2 * (s.n + s.m + 1)) 0) (omega arith);
        kept_room = rw (length-replicate {A = ℕ} (kept_length * max_kept) 0) (omega arith);
      },
    )
