-- What a step's refusal tells of its station, and what a panel is told that asks: both are what the station's readiness stands for. Assumes
-- nothing.
use Rattle.std.specs.Prelude.{if◌then◌else◌}
use mathlib.Core.Path.{◌≡◌, refl, sym, ap, ◌∙◌}
use mathlib.Core.Logic.{◌↔◌, ◌≢◌}
use mathlib.Core.Bool.{Bool, true, false, not, false≢true}
use mathlib.Core.List.{List, [], ◌∷◌}
use Prim.Native.Nat.{ℕ, ◌≤◌}
use native.Mathlib.Omega.{arith}
use borrow.Author.Tests.{leb-true, le-leb, eqb-true, eqb-false, eq-eqb, ne_eqb}
use lib.Dec.{eqb, ltb}
use Rattle.rules.specs.Words.{among, Answer, answer, Test, ◌refuses◌at◌, judge, refusal}
use Rattle.rules.specs.Names.{ROOM, LIST, STATE, FULL, COMPONENT, NOT_READY, TURN, RESET, ENDED}
use Rattle.rules.specs.Records.{Pick}
use Rattle.rules.specs.State.{State}
use Rattle.rules.specs.Lent.{Lent}
use Rattle.rules.specs.Ready.{Readiness, is_ready, has_ended, waits_at, is_absent, told, readiness, says_ready, says_ended, says_waiting, ready, ended, waiting, lowest}
use Rattle.rules.specs.Step.{before_pick, pick_tests, step}
use Rattle.rules.specs.Asked.{asked}
use Rattle.rules.specs.Calls.{ruled}
use Rattle.laws.specs.Passed.{Known, CanStep}
use Rattle.laws.specs.Tells.{StepTells, AskedTells}
use Rattle.laws.proofs.Choice.{by_test}
use Rattle.laws.proofs.Judge.{judge_before, one_of_numbers}
use Rattle.laws.proofs.Ready.{says_absent, absent_is, waits_where}
use Rattle.laws.proofs.Passed.{before_passed, step_tests_pick}
use Rattle.laws.proofs.Answers.{step_number}

-- tests 10, 16 and 11 refuse with the number that the readiness stands for, and leave the rest to further tests where it stands for 0
by_case : (r : Readiness) (tests : List Test)
    → refusal ((says_absent r refuses COMPONENT at 0) ∷ (says_ended r refuses ENDED at 0) ∷ (says_waiting r refuses NOT_READY at 0) ∷ tests)
    ≡ (if eqb (told r).number 0 then refusal tests else (told r).number)
unfolding judge
by_case is_ready tests = refl
by_case has_ended tests = refl
by_case (waits_at place) tests = refl
by_case is_absent tests = refl

-- whether it is a case is whether its number is that case's
ready_by : (r : Readiness) → says_ready r ≡ eqb (told r).number 0
ready_by is_ready = refl
ready_by has_ended = refl
ready_by (waits_at place) = refl
ready_by is_absent = refl

ended_by : (r : Readiness) → says_ended r ≡ eqb (told r).number ENDED
ended_by is_ready = refl
ended_by has_ended = refl
ended_by (waits_at place) = refl
ended_by is_absent = refl

waiting_by : (r : Readiness) → says_waiting r ≡ eqb (told r).number NOT_READY
waiting_by is_ready = refl
waiting_by has_ended = refl
waiting_by (waits_at place) = refl
waiting_by is_absent = refl

absent_by : (r : Readiness) → says_absent r ≡ eqb (told r).number COMPONENT
absent_by is_ready = refl
absent_by has_ended = refl
absent_by (waits_at place) = refl
absent_by is_absent = refl

by_number : {test : Bool} {x y : ℕ} → test ≡ eqb x y → (x ≡ y) ↔ (test ≡ true)
by_number {x = x} {y = y} same = (λ h. same ∙ eq-eqb x y h, λ h. eqb-true x y (sym same ∙ h))

pub ready_number : (r : Readiness) → ((told r).number ≡ 0) ↔ (says_ready r ≡ true)
ready_number r = by_number (ready_by r)

pub ended_number : (r : Readiness) → ((told r).number ≡ ENDED) ↔ (says_ended r ≡ true)
ended_number r = by_number (ended_by r)

-- the place is 0 but where it waits, and there it is where it waits
no_place : (r : Readiness) → (told r).number ≢ NOT_READY → (told r).place ≡ 0
no_place is_ready h = refl
no_place has_ended h = refl
no_place (waits_at place) h = absurd (h refl)
no_place is_absent h = refl

whole : {a b : Answer} → a.number ≡ b.number → a.place ≡ b.place → a ≡ b
whole n p = λ i. record { number = n i; place = p i }

by_answer : (r : Readiness) (x : ℕ) → x ≢ NOT_READY → {test : Bool} → test ≡ eqb (told r).number x → (told r ≡ answer x 0) ↔ (test ≡ true)
by_answer r x moves same =
    let number = by_number same in (
      λ h. number.0 (ap (λ (a : Answer). a.number) h),
      λ h. let n = number.1 h in whole n (no_place r (λ e. moves (sym n ∙ e))),
    )

waiting_told : (r : Readiness) (p : ℕ) → (told r ≡ answer NOT_READY p) ↔ (r ≡ waits_at p)
waiting_told r p = (λ h. shape r (ap (λ (a : Answer). a.number) h) (ap (λ (a : Answer). a.place) h), λ h. rw h)
  where
    shape : (r : Readiness) → (told r).number ≡ NOT_READY → (told r).place ≡ p → r ≡ waits_at p
    shape is_ready h e = absurd (omega arith)
    shape has_ended h e = absurd (omega arith)
    shape (waits_at place) h e = ap waits_at e
    shape is_absent h e = absurd (omega arith)

module _ (list : List ℕ) (s : State) (j : ℕ) where
  absent_means : (says_absent (readiness list s j) ≡ true) ↔ (s.n ≤ j)
  absent_means = (λ h. leb-true s.n j (absent_is list s j ∙ h), λ h. sym (absent_is list s j) ∙ le-leb s.n j h)

  -- of a sound list and state
  pub asked_told : Known list s → asked list s j ≡ told (readiness list s j)
  unfolding asked judge
  asked_told known = rw (known.of_list, known.of_state)

module _ (list : List ℕ) (s : State) (p : Pick) where
  -- what is tested after the readiness
  abbrev last_tests : List Test
  last_tests = (not (lowest list s p.station) refuses TURN at 0) ∷ (ltb s.b p.reset refuses RESET at 0) ∷ []

  -- a pick is refused with the number that its station's readiness tells, and by the last two tests where that is 0
  pub pick_told : refusal (pick_tests list s p)
      ≡ (if eqb (told (readiness list s p.station)).number 0 then refusal last_tests else (told (readiness list s p.station)).number)
  unfolding ended waiting
  pick_told = rw (absent_is list s p.station) (by_case (readiness list s p.station) last_tests)

module _ (list : List ℕ) (s : State) (lent : Lent) (p : Pick) where
  -- a number that neither the tests before the pick nor those after the readiness have
  step_told : (x : ℕ) → x ≢ 0 → among x (LIST ∷ STATE ∷ FULL ∷ ROOM ∷ ROOM ∷ []) ≡ false → among x (TURN ∷ RESET ∷ []) ≡ false
      → ((step list s lent p).number ≡ x) ↔ (CanStep list s lent × ((told (readiness list s p.station)).number ≡ x))
  step_told x some not_before not_after = (
    λ h.
        by_test (eqb (refusal (before_pick list s lent)) 0)
        (λ e.
        let can = (before_passed list s lent).0 (eqb-true _ 0 e) in
        let number : refusal (pick_tests list s p) ≡ x = sym (step_tests_pick list s lent p can) ∙ sym (step_number list s lent p) ∙ h in
        (can, decided number))
        (λ e.
        let refused = eqb-false (refusal (before_pick list s lent)) 0 e in
        let number : refusal (before_pick list s lent) ≡ x =
        sym (ap (λ (a : Answer). a.number) (judge_before (before_pick list s lent) (pick_tests list s p) refused)) ∙ sym (step_number list s lent p) ∙ h in
        absurd (false≢true (sym not_before ∙ rw number at (one_of_numbers (before_pick list s lent) refused)))),
    λ h.
        step_number list s lent p ∙ step_tests_pick list s lent p h.0 ∙ pick_told list s p
        ∙ rw h.1 (by_test (eqb x 0) (λ e. absurd (some (eqb-true x 0 e))) (λ e. rw e)),
  )
    where
      decided : refusal (pick_tests list s p) ≡ x → (told (readiness list s p.station)).number ≡ x
      decided number =
          by_test (eqb (told (readiness list s p.station)).number 0)
          (λ e.
          let last : refusal (last_tests list s p) ≡ x = sym (rw e at (pick_told list s p)) ∙ number in
          absurd (false≢true (sym not_after ∙ rw last at (one_of_numbers (last_tests list s p) (λ z. some (sym last ∙ z))))))
          (λ e. sym (rw e at (pick_told list s p)) ∙ number)

pub step_tells : (list : List ℕ) (s : State) (lent : Lent) (p : Pick) → StepTells ruled list s lent p
unfolding ended waiting
step_tells list s lent p =
    let r = readiness list s p.station in
    let ends = step_told list s lent p ENDED (λ z. omega arith) refl refl in
    let waits = step_told list s lent p NOT_READY (λ z. omega arith) refl refl in
    let none = step_told list s lent p COMPONENT (λ z. omega arith) refl refl in
    let ends_when = ended_number r in
    let waiting_number = by_number (waiting_by r) in
    let absent_number = by_number (absent_by r) in
    record {
      ended_when = (
        λ h. let (can, e) = ends.0 h in (can, ends_when.0 e),
        λ h. ends.1 (h.0, ends_when.1 h.1),
      );
      waiting_when = (
        λ h. let (can, e) = waits.0 h in (can, waiting_number.0 e),
        λ h. waits.1 (h.0, waiting_number.1 h.1),
      );
      none_when = (
        λ h. let (can, e) = none.0 h in (can, (absent_means list s p.station).0 (absent_number.0 e)),
        λ h. none.1 (h.0, absent_number.1 ((absent_means list s p.station).1 h.1)),
      );
    }

pub asked_tells : (list : List ℕ) (s : State) (j : ℕ) → Known list s → AskedTells list s j
unfolding ready ended waiting
asked_tells list s j known =
    let r = readiness list s j in
    let so = asked_told list s j known in
    let none = by_answer r COMPONENT (λ z. omega arith) (absent_by r) in
    record {
      ready_when = rw so (by_answer r 0 (λ z. omega arith) (ready_by r));
      ended_when = rw so (by_answer r ENDED (λ z. omega arith) (ended_by r));
      waiting_when = λ p. rw so (λ h. (waits_where list s j p).0 ((waiting_told r p).0 h), λ h. (waiting_told r p).1 ((waits_where list s j p).1 h));
      none_when = rw so (λ h. (absent_means list s j).0 (none.0 h), λ h. none.1 ((absent_means list s j).1 h));
      step_refused = λ lent reset can held.
          let p : Pick = record { station = j; reset = reset } in
          let same = ap (λ (a : Answer). a.number) so in
          step_number list s lent p ∙ step_tests_pick list s lent p can ∙ pick_told list s p ∙ rw (same, ne_eqb _ 0 (λ z. held (same ∙ z)));
    }
