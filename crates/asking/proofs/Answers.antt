-- What refuses the question, and that its answer, a refusal's or that of a station of a sound list and state, is what the rules answer. Assumes
-- nothing.
use mathlib.Core.Path.{◌≡◌, refl, sym, ap, ◌∙◌}
use mathlib.Core.Logic.{◌≢◌, ◌⊎◌, inl, inr, ⊎_elim}
use mathlib.Core.Bool.{false}
use mathlib.Core.List.{List, [], ◌∷◌}
use Prim.Native.Nat.{ℕ, ◌≤◌, ◌<◌}
use native.Mathlib.Omega.{arith}
use borrow.Author.Tests.{leb-true, leb-false, le-leb, lt-leb, eqb-true, eqb-false}
use lib.Dec.{eqb, leb}
use Rattle.rules.specs.Words.{Answer, answer, Test, ◌refuses◌at◌, judge, refusal}
use Rattle.rules.specs.Names.{COMPONENT}
use Rattle.rules.specs.State.{State}
use Rattle.rules.specs.Ready.{is_absent, told, readiness}
use Rattle.rules.specs.Lights.{lights_tests}
use Rattle.rules.specs.Asked.{asked}
use Rattle.laws.specs.Passed.{Known}
use Rattle.laws.proofs.Choice.{by_test}
use Rattle.laws.proofs.Judge.{judge_before, judge_then, judge_no, judge_yes, unrefused}
use Rattle.laws.proofs.Passed.{lights_passed}
use Rattle.laws.proofs.Ready.{readiness_tells}
use Rattle.laws.proofs.Told.{asked_told}
use Rattle.record.specs.declared.refusal.Refusal.{Refusal}
use Rattle.record.specs.declared.refusal.Refusal.TheVariants as refusals
use Rattle.record.specs.Refusals.{number_of}
use Rattle.asking.specs.Asked.{asked_tests}

-- no refusal has the number 0
pub number_some : (refusal : Refusal) → number_of refusal ≡ 0 → ⊥
number_some refusals.Length e = omega arith
number_some refusals.Field e = omega arith
number_some refusals.Count e = omega arith
number_some refusals.Shape e = omega arith
number_some refusals.Depth e = omega arith
number_some refusals.Room e = omega arith
number_some refusals.List e = omega arith
number_some refusals.State e = omega arith
number_some refusals.Full e = omega arith
number_some refusals.Component e = omega arith
number_some refusals.NotReady e = omega arith
number_some refusals.Turn e = omega arith
number_some refusals.Reset e = omega arith
number_some refusals.Empty e = omega arith
number_some refusals.Log e = omega arith
number_some refusals.Ended e = omega arith

module _ (list : List ℕ) (s : State) (j : ℕ) where
  abbrev last : List Test
  last = (leb s.n j refuses COMPONENT at 0) ∷ []

  -- what refuses the list or the state refuses the question
  pub before : refusal (lights_tests list s) ≢ 0 → refusal (asked_tests list s j) ≡ refusal (lights_tests list s)
  before some = ap (λ (a : Answer). a.number) (judge_before (lights_tests list s) last some)

  -- and where nothing does, only the station may
  pub after : refusal (lights_tests list s) ≡ 0 → refusal (asked_tests list s j) ≡ refusal last
  after none =
      ap (λ (a : Answer). a.number)
      (judge_then (lights_tests list s) last ((unrefused (lights_tests list s) refl).0 none))

  pub refused_before : (e : Refusal) → number_of e ≡ refusal (lights_tests list s) → number_of e ≡ refusal (asked_tests list s j)
  refused_before e same = same ∙ sym (before (λ none. number_some e (same ∙ none)))

  pub refused_station : 0 ≡ refusal (lights_tests list s) → s.n ≤ j → COMPONENT ≡ refusal (asked_tests list s j)
  refused_station none past =
      sym (after (sym none) ∙ ap (λ (a : Answer). a.number) (judge_yes (leb s.n j) COMPONENT 0 [] (le-leb s.n j past)))

  pub taken : 0 ≡ refusal (lights_tests list s) → j < s.n → 0 ≡ refusal (asked_tests list s j)
  unfolding judge
  taken none within =
      sym (after (sym none) ∙ ap (λ (a : Answer). a.number) (judge_no (leb s.n j) COMPONENT 0 [] (lt-leb s.n j within)))

  -- the question is taken where the list and the state are sound and the list has the station
  pub passed : 0 ≡ refusal (asked_tests list s j) → Known list s × (j < s.n)
  unfolding judge
  passed none =
      by_test (eqb (refusal (lights_tests list s)) 0)
      (λ e.
      let known = (lights_passed list s).0 (eqb-true _ 0 e) in
      by_test (leb s.n j)
      (λ past. absurd (omega (arith, none ∙ sym (refused_station (sym (eqb-true _ 0 e)) (leb-true s.n j past)))))
      (λ within. (known, leb-false s.n j within)))
      (λ e. absurd (eqb-false _ 0 e (sym (before (eqb-false _ 0 e)) ∙ sym none)))

  -- a refusal is that of the list or the state, or there is no such station
  pub refused_by : (e : Refusal) → number_of e ≡ refusal (asked_tests list s j)
      → ((number_of e ≡ refusal (lights_tests list s)) × (eqb (refusal (lights_tests list s)) 0 ≡ false))
      ⊎ ((number_of e ≡ COMPONENT) × Known list s × (readiness list s j ≡ is_absent))
  refused_by e same =
      by_test (eqb (refusal (lights_tests list s)) 0)
      (λ none.
      let zero = eqb-true _ 0 none in
      by_test (leb s.n j)
      (λ past.
      let none_there = leb-true s.n j past in
      inr (same ∙ sym (refused_station (sym zero) none_there), (lights_passed list s).0 zero, ((readiness_tells list s).of_none j none_there).0))
      (λ within. absurd (number_some e (same ∙ sym (taken (sym zero) (leb-false s.n j within))))))
      (λ some. inl (same ∙ before (eqb-false _ 0 some), some))

  -- the answers
  pub told_refused : (e : Refusal) → number_of e ≡ refusal (asked_tests list s j) → answer (number_of e) 0 ≡ asked list s j
  unfolding asked
  told_refused e same =
      ⊎_elim (λ w. rw (w.0, w.1)) (λ w. rw w.0 (sym (asked_told list s j w.1 ∙ ap told w.2))) (refused_by e same)

  pub told_taken : 0 ≡ refusal (asked_tests list s j) → told (readiness list s j) ≡ asked list s j
  told_taken none = sym (asked_told list s j (passed none).0)
