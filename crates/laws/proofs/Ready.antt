-- Readiness, by the record where a station stands: which case it is, and what each case says. Assumes nothing.
use mathlib.Core.Path.{◌≡◌, refl, sym, ap, ◌∙◌}
use mathlib.Core.Logic.{◌↔◌, ◌≢◌}
use mathlib.Core.Bool.{Bool, true, false, false≢true}
use mathlib.Core.List.{List}
use Prim.Native.Nat.{ℕ, ◌≤◌, ◌<◌}
use native.Mathlib.Omega.{arith}
use borrow.Author.Tests.{eqb-true, eqb-false, lt-ltb, le-ltb, leb-true, leb-false}
use lib.Dec.{eqb, leb}
use Rattle.rules.specs.Names.{AWAIT, STOP}
use Rattle.rules.specs.Records.{ListRecord}
use Rattle.rules.specs.Values.{holds}
use Rattle.rules.specs.State.{State, position}
use Rattle.rules.specs.Ready.{Readiness, is_ready, has_ended, waits_at, is_absent, next_step, readiness_at, readiness, says_ready, says_ended, says_waiting, ready, ended, waiting}
use Rattle.laws.specs.Tells.{ExactlyOne, the_first, the_second, the_third, Goes, Waits, Tells, ReadinessTells}
use Rattle.laws.proofs.Choice.{by_test}

-- why a readiness is what it is
data Case (vars : List ℕ) (e : ListRecord) (place : ℕ) : Readiness → Type 0 where
  goes : Goes vars e → Case vars e place is_ready
  stops : e.own.kind ≡ STOP → Case vars e place has_ended
  waits : Waits vars e → Case vars e place (waits_at place)

module _ (vars : List ℕ) (e : ListRecord) (place : ℕ) where
  case : Case vars e place (readiness_at vars e place)
  unfolding readiness_at
  case =
      by_test (eqb e.own.kind STOP)
      (λ stop. rw stop (stops (eqb-true _ STOP stop)))
      (λ on.
      let moves : e.own.kind ≢ STOP = eqb-false _ STOP on in
      by_test (eqb e.own.kind AWAIT)
      (λ await.
      by_test (holds vars e.own)
      (λ h. rw (on, await, h) (goes (moves, λ k. h)))
      (λ h. rw (on, await, h) (waits (eqb-true _ AWAIT await, h))))
      (λ other. rw (on, other) (goes (moves, λ k. absurd (eqb-false _ AWAIT other k)))))

  one : {r : Readiness} → Case vars e place r → ExactlyOne (says_ready r) (says_ended r) (says_waiting r)
  one (goes g) = the_first
  one (stops k) = the_second
  one (waits w) = the_third

  ready_case : {r : Readiness} → Case vars e place r → (says_ready r ≡ true) ↔ Goes vars e
  ready_case (goes g) = (λ h. g, λ h. refl)
  ready_case (stops k) = (λ h. absurd (false≢true h), λ h. absurd (h.0 k))
  ready_case (waits w) = (λ h. absurd (false≢true h), λ h. sym w.1 ∙ h.1 w.0)

  ended_case : {r : Readiness} → Case vars e place r → (says_ended r ≡ true) ↔ (e.own.kind ≡ STOP)
  ended_case (goes g) = (λ h. absurd (false≢true h), λ k. absurd (g.0 k))
  ended_case (stops k) = (λ h. k, λ h. refl)
  ended_case (waits w) = (λ h. absurd (false≢true h), λ k. absurd (omega (arith, w.0)))

  waiting_case : {r : Readiness} → Case vars e place r → (says_waiting r ≡ true) ↔ Waits vars e
  waiting_case (goes g) = (λ h. absurd (false≢true h), λ h. sym h.1 ∙ g.1 h.0)
  waiting_case (stops k) = (λ h. absurd (false≢true h), λ h. absurd (omega (arith, h.0)))
  waiting_case (waits w) = (λ h. w, λ h. refl)

  where_case : {r : Readiness} → Case vars e place r → (p : ℕ) → (r ≡ waits_at p) ↔ ((says_waiting r ≡ true) × (p ≡ place))
  where_case (goes g) p = (λ h. absurd (false≢true (ap says_waiting h)), λ h. absurd (false≢true h.0))
  where_case (stops k) p = (λ h. absurd (false≢true (ap says_waiting h)), λ h. absurd (false≢true h.0))
  where_case (waits w) p = (λ h. (refl, cc), λ h. rw h.1)

  -- "a station is ready when not at STOP and, if at AWAIT, its condition holds"
  pub ready_at_means : (says_ready (readiness_at vars e place) ≡ true) ↔ Goes vars e
  ready_at_means = ready_case case

module _ (list : List ℕ) (s : State) (j : ℕ) where
  -- a station of the list is judged by its next step's record, and another is absent
  pub readiness_here : j < s.n → readiness list s j ≡ readiness_at s.vars (next_step list s j) (position s j)
  unfolding readiness
  readiness_here l = rw (lt-ltb j s.n l)

  readiness_none : s.n ≤ j → readiness list s j ≡ is_absent
  unfolding readiness
  readiness_none l = rw (le-ltb j s.n l)

  here : j < s.n → Case s.vars (next_step list s j) (position s j) (readiness list s j)
  here l = rw (readiness_here l) (case s.vars (next_step list s j) (position s j))

  -- a station that waits does so where it stands
  pub waits_where : (p : ℕ) → (readiness list s j ≡ waits_at p) ↔ ((waiting list s j ≡ true) × (p ≡ position s j))
  unfolding waiting
  waits_where p =
      by_test (leb s.n j)
      (λ t. rw (readiness_none (leb-true s.n j t)) (λ h. absurd (false≢true (ap says_waiting h)), λ h. absurd (false≢true h.0)))
      (λ t. where_case s.vars (next_step list s j) (position s j) (here (leb-false s.n j t)) p)

  tells_here : j < s.n → Tells list s j
  unfolding ready ended waiting
  tells_here l =
      let vars = s.vars in
      let e = next_step list s j in
      let place = position s j in
      record {
        one_case = one vars e place (here l);
        ready_when = ready_case vars e place (here l);
        ended_when = ended_case vars e place (here l);
        waiting_when = waiting_case vars e place (here l);
        waits_where = waits_where;
      }

  none_here : s.n ≤ j → (readiness list s j ≡ is_absent) × (ready list s j ≡ false) × (ended list s j ≡ false) × (waiting list s j ≡ false)
  unfolding ready ended waiting
  none_here l =
      let none = readiness_none l in
      (none, ap says_ready none, ap says_ended none, ap says_waiting none)

-- the fourth case: "station n or above"
abbrev pub says_absent : Readiness → Bool
says_absent is_ready = false
says_absent has_ended = false
says_absent (waits_at place) = false
says_absent is_absent = true

pub absent_is : (list : List ℕ) (s : State) (j : ℕ) → leb s.n j ≡ says_absent (readiness list s j)
absent_is list s j =
    by_test (leb s.n j)
    (λ e. e ∙ ap says_absent (sym (readiness_none list s j (leb-true s.n j e))))
    (λ e. e ∙ sym (there (here list s j (leb-false s.n j e))))
  where
    there : {vars : List ℕ} {e : ListRecord} {place : ℕ} {r : Readiness} → Case vars e place r → says_absent r ≡ false
    there (goes g) = refl
    there (stops k) = refl
    there (waits w) = refl

-- a readiness that says it is ready, or has ended, is that case
pub ready_is : (r : Readiness) → says_ready r ≡ true → r ≡ is_ready
ready_is is_ready h = refl
ready_is has_ended h = absurd (false≢true h)
ready_is (waits_at p) h = absurd (false≢true h)
ready_is is_absent h = absurd (false≢true h)

pub ended_is : (r : Readiness) → says_ended r ≡ true → r ≡ has_ended
ended_is is_ready h = absurd (false≢true h)
ended_is has_ended h = refl
ended_is (waits_at p) h = absurd (false≢true h)
ended_is is_absent h = absurd (false≢true h)

-- of three tests of which exactly one holds: the first does where the others fail, and then alone
the_rest : {a b c : Bool} → ExactlyOne a b c → b ≡ false → c ≡ false → a ≡ true
the_rest the_first e f = refl
the_rest the_second e f = sym e
the_rest the_third e f = sym f

alone : {a b c : Bool} → ExactlyOne a b c → a ≡ true → (b ≡ false) × (c ≡ false)
alone the_first e = (refl, refl)
alone the_second e = absurd (false≢true e)
alone the_third e = absurd (false≢true e)

module _ (list : List ℕ) (s : State) (j : ℕ) (l : j < s.n) where
  -- a station of the list is ready exactly where it has not ended and does not wait
  pub ready_else : ended list s j ≡ false → waiting list s j ≡ false → ready list s j ≡ true
  ready_else = the_rest (tells_here list s j l).one_case

  pub ready_alone : ready list s j ≡ true → (ended list s j ≡ false) × (waiting list s j ≡ false)
  ready_alone = alone (tells_here list s j l).one_case

pub readiness_tells : (list : List ℕ) (s : State) → ReadinessTells list s
readiness_tells list s = record { of_station = tells_here list s; of_none = none_here list s }
