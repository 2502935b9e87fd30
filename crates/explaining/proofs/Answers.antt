-- What `why` answers, of a refusal and by the station's readiness. Assumes nothing.
use mathlib.Core.Path.{◌≡◌, sym, ap, ◌∙◌}
use mathlib.Core.Logic.{⊎_elim}
use mathlib.Core.Bool.{Bool, false, ◌&&◌, false≢true}
use mathlib.Core.List.{List}
use Prim.Native.Nat.{ℕ, ◌≤◌, ◌<◌, min}
use native.Mathlib.Nat.{min-eq_left}
use native.Mathlib.Omega.{arith}
use borrow.Author.Tests.{leb-true, leb-false}
use lib.Dec.{leb}
use lib.ListN.{get_or, replicate}
use Rattle.rules.specs.Words.{first, changed, refusal}
use Rattle.rules.specs.Names.{max_stations}
use Rattle.rules.specs.Records.{list_record_at}
use Rattle.rules.specs.State.{State, position, priority}
use Rattle.rules.specs.Turn.{lowest_of}
use Rattle.rules.specs.Ready.{waits_at, says_ready, readiness, ready, lowest}
use Rattle.rules.specs.Why.{Reason, bare, said, first_in_turn, reason_by, reason, why}
use Rattle.laws.specs.Passed.{Known}
use Rattle.laws.proofs.Choice.{by_test}
use Rattle.laws.proofs.Sound.{at_means, sound_means}
use Rattle.laws.proofs.Named.{sound_second}
use Rattle.laws.proofs.Ready.{readiness_tells, waits_where}
use Rattle.explained.proofs.True.{why_said}
use Rattle.record.specs.declared.refusal.Refusal.{Refusal}
use Rattle.record.specs.Refusals.{number_of}
use Rattle.stations.specs.Places.{readiness_by}
use Rattle.stations.proofs.Known.{ready_known}
use Rattle.asking.specs.Asked.{asked_tests}
use Rattle.asking.proofs.Answers.{passed, refused_by}

module _ (list : List ℕ) (s : State) (j : ℕ) where
  -- refused, all zeros but the number
  pub refused_said : (e : Refusal) → number_of e ≡ refusal (asked_tests list s j) → bare (number_of e) ≡ why list s j
  unfolding why reason
  refused_said e same =
      ⊎_elim (λ w. rw (w.0, w.1)) (λ w. rw w.0 (sym (why_said list s j w.1 ∙ rw w.2))) (refused_by list s j e same)

  -- else the reason that goes with the readiness
  pub taken_said : 0 ≡ refusal (asked_tests list s j) → {r : Reason} → r ≡ reason_by list s j (readiness list s j) → said r ≡ why list s j
  unfolding reason
  taken_said none given = ap said given ∙ sym (why_said list s j (passed list s j none).0)

  -- where the condition at which a station waits is against a variable, k fits a byte
  pub second_fits : Known list s → (p : ℕ) → readiness list s j ≡ waits_at p → 4 ≤ (list_record_at list p).own.op
      → (list_record_at list p).own.k < 256
  second_fits known p waits_there against =
      let (waits, at) = (waits_where list s j p).0 waits_there in
      by_test (leb s.n j)
      (λ past. absurd (false≢true (sym ((readiness_tells list s).of_none j (leb-true s.n j past)).3 ∙ waits)))
      (λ some.
      let l = leb-false s.n j some in
      let stands = at_means list 0 j (position s j) (((sound_means list s).0 known.of_state).placed j l) in
      let await = (((readiness_tells list s).of_station j l).waiting_when.0 waits).0 in
      let small = sound_second list p known.of_list (rw at stands.from) (rw at stands.within) (rw at await) against in
      omega (arith, small))

-- the turn, where which stations are ready is known
module _ (list : List ℕ) (s : State) (few : s.n ≤ max_stations) {all : List Bool}
    (is : all ≡ changed (λ i was. says_ready (readiness_by list s.vars (position s i))) (min s.n max_stations) (replicate max_stations false)) where
  known : (λ i. get_or all i false) ≡ ready list s
  known = λ t i. ready_known list s few (rw (min-eq_left few) at is) i t

  pub lowest_known : (j : ℕ) → lowest_of s.n (λ i. get_or all i false) (priority s) j ≡ lowest list s j
  unfolding lowest
  lowest_known j = ap (λ (f : ℕ → Bool). lowest_of s.n f (priority s) j) known

  pub first_known : first (λ i. get_or all i false && lowest_of s.n (λ k. get_or all k false) (priority s) i) s.n ≡ first_in_turn list s
  unfolding first_in_turn lowest
  first_known = ap (λ (f : ℕ → Bool). first (λ i. f i && lowest_of s.n f (priority s) i) s.n) known
