-- Each reason is given exactly where it is the true one, and no other program answers so. Assumes nothing.
use Rattle.std.specs.Prelude.{if◌then◌else◌}
use mathlib.Core.Path.{◌≡◌, refl, sym, ap, ◌∙◌}
use mathlib.Core.Logic.{◌↔◌}
use mathlib.Core.Bool.{true, false, false≢true}
use mathlib.Core.List.{List}
use Prim.Native.Nat.{ℕ, ◌≤◌, ◌<◌}
use native.Mathlib.Omega.{arith}
use borrow.Author.Tests.{lt-ltb, le-ltb, ltb-true, ltb-false, leb-true, leb-false}
use lib.Dec.{eqb, leb, ltb}
use lib.ListN.{get_or}
use lib.Signed.{le_z}
use Rattle.rules.specs.Words.{first, judge}
use Rattle.rules.specs.Names.{COMPONENT, NOT_READY, TURN, ENDED}
use Rattle.rules.specs.List.{sound_list}
use Rattle.rules.specs.State.{State, priority, sound_state}
use Rattle.rules.specs.Ready.{Readiness, is_ready, has_ended, waits_at, is_absent, next_step, readiness, says_ready, says_ended, says_waiting, ready, ended, waiting, lowest}
use Rattle.rules.specs.Lights.{in_turn}
use Rattle.rules.specs.Why.{Seen, Why, Reason, because_ended, because_waiting, because_waiting_two, because_behind, may_be_picked, because_absent, said, seen, waits_for, first_in_turn, reason_by, reason, why}
use Rattle.laws.specs.Passed.{Known}
use Rattle.laws.proofs.Choice.{by_test, split, both}
use Rattle.laws.proofs.Places.{first_is, first_at, first_before}
use Rattle.laws.proofs.Lowest.{lowest_means}
use Rattle.laws.proofs.Ready.{readiness_tells, waits_where, ready_is, ended_is, ready_else}
use Rattle.fair.specs.Charged.{Chosen}
use Rattle.fair.proofs.Order.{le_z_trans}
use Rattle.fair.proofs.Deadlock.{no_deadlock}
use Rattle.explained.specs.Tells.{Ahead, Held, Shows, Behind, Truly, TrueReasons, OneReason, Refuses, NoOther}

-- the reason that an answer stands for
back : Why → Reason
back a =
    if eqb a.number ENDED then because_ended
    else if eqb a.number COMPONENT then because_absent
    else if eqb a.number TURN then because_behind a.ahead
    else if eqb a.number NOT_READY
    then (if eqb a.count 1 then because_waiting a.place (record { variable = get_or a.variables 0 0; value = get_or a.values 0 0 })
    else because_waiting_two a.place (record { variable = get_or a.variables 0 0; value = get_or a.values 0 0 })
    (record { variable = get_or a.variables 1 0; value = get_or a.values 1 0 }))
    else may_be_picked

back_said : (r : Reason) → back (said r) ≡ r
unfolding back
back_said because_ended = refl
back_said (because_waiting p v) = refl
back_said (because_waiting_two p v w) = refl
back_said (because_behind i) = refl
back_said may_be_picked = refl
back_said because_absent = refl

said_one : {r q : Reason} → said r ≡ said q → r ≡ q
said_one {r} {q} e = sym (back_said r) ∙ ap back e ∙ back_said q

-- what is told of a variable is its number and its value
shows : {vars : List ℕ} {variable : ℕ} → Shows vars variable (seen vars variable)
shows = record { number = refl; value = refl }

shown : {vars : List ℕ} {variable : ℕ} {v : Seen} → Shows vars variable v → v ≡ seen vars variable
shown h = λ i. record { variable = h.number i; value = h.value i }

module _ (list : List ℕ) (s : State) where
  -- a station in turn is one that FAIR lets be picked
  turn_means : (i : ℕ) → i < s.n → (in_turn list s i ≡ true) ↔ Chosen list s i
  turn_means i l = (
    λ h.
        let (enabled, low) = split (ready list s i) (lowest list s i) h in
        record { station = l; enabled = enabled; lowest = (lowest_means list s i).0 low },
    λ c. both c.enabled ((lowest_means list s i).1 c.lowest),
  )

  -- where a station is ready, the first in turn is ahead of all
  first_ahead : (j : ℕ) → j < s.n → ready list s j ≡ true → Ahead list s (first_in_turn list s)
  unfolding first_in_turn
  first_ahead j l r =
      let (i, station, enabled, low) = no_deadlock list s j l r in
      let turn = in_turn list s in
      let found : first turn s.n < s.n =
      by_test (ltb (first turn s.n) s.n)
      (λ e. ltb-true (first turn s.n) s.n e)
      (λ e. absurd (false≢true (sym (first_before turn s.n i (omega (arith, ltb-false (first turn s.n) s.n e, station))) ∙ both enabled low))) in
      record {
        chosen = (turn_means (first turn s.n) found).0 (first_at turn s.n found);
        numbered_lowest = λ k below c. false≢true (sym (first_before turn s.n k below) ∙ (turn_means k c.station).1 c);
      }

  -- and there is no other ahead of all
  ahead_first : (i : ℕ) → Ahead list s i → first_in_turn list s ≡ i
  unfolding first_in_turn
  ahead_first i a =
      first_is (in_turn list s) s.n i a.chosen.station ((turn_means i a.chosen.station).1 a.chosen)
      (λ k below. by_test (in_turn list s k) (λ e. absurd (a.numbered_lowest k below ((turn_means k (omega (arith, below, a.chosen.station))).0 e))) (λ e. e))

module _ (list : List ℕ) (s : State) (j : ℕ) where
  absent : s.n ≤ j → readiness list s j ≡ is_absent
  absent l = ((readiness_tells list s).of_none j l).0

  -- a ready station that is not the lowest is behind the first in turn
  behind : j < s.n → ready list s j ≡ true → lowest list s j ≡ false → Behind list s j (first_in_turn list s)
  behind l enabled high =
      let i = first_in_turn list s in
      let a = first_ahead list s j l enabled in
      record {
        station = l;
        enabled = enabled;
        ahead = a;
        lower = by_test (le_z (priority s j) (priority s i))
            (λ e.
            let low = (lowest_means list s j).1 (λ k below r. le_z_trans (priority s j) (priority s i) (priority s k) e (a.chosen.lowest k below r)) in
            absurd (false≢true (sym high ∙ low)))
            (λ e. e);
      }

  -- the reason that is given is the true one: of a station of the list, by its readiness
  by_readiness : j < s.n → (r : Readiness) → readiness list s j ≡ r → Truly list s j (reason_by list s j r)
  unfolding ready ended waiting waits_for
  by_readiness l is_ready e =
      let enabled : ready list s j ≡ true = ap says_ready e in
      by_test (lowest list s j)
      (λ low. rw low (record { station = l; enabled = enabled; lowest = (lowest_means list s j).0 low }))
      (λ high. rw high (behind l enabled high))
  by_readiness l has_ended e = (l, ((readiness_tells list s).of_station j l).ended_when.0 (ap says_ended e))
  by_readiness l (waits_at p) e =
      let (waits, at) = (waits_where list s j p).0 e in
      let r = (next_step list s j).own in
      let held : Held list s j p = record { station = l; waits = ((readiness_tells list s).of_station j l).waiting_when.0 waits; at = at } in
      rw at
      (by_test (ltb r.op 4)
      (λ one. rw one (rw at at held, ltb-true r.op 4 one, shows))
      (λ two. rw two (rw at at held, ltb-false r.op 4 two, shows, shows)))
  by_readiness l is_absent e = absurd (false≢true (sym (ap says_ready e) ∙ ready_else list s j l (ap says_ended e) (ap says_waiting e)))

  given : Truly list s j (reason list s j)
  unfolding reason
  given =
      by_test (leb s.n j)
      (λ e. let l = leb-true s.n j e in rw (absent l) l)
      (λ e. by_readiness (leb-false s.n j e) (readiness list s j) refl)

  -- and a true one is given
  only : (r : Reason) → Truly list s j r → reason list s j ≡ r
  unfolding reason ready ended waits_for
  only because_ended (l, stop) = rw (ended_is (readiness list s j) (((readiness_tells list s).of_station j l).ended_when.1 stop))
  only (because_waiting p v) (held, one, first) =
      let waits = (waits_where list s j p).1 (((readiness_tells list s).of_station j held.station).waiting_when.1 held.waits, held.at) in
      rw (waits, held.at, lt-ltb (next_step list s j).own.op 4 one, shown first)
  only (because_waiting_two p v w) (held, two, first, second) =
      let waits = (waits_where list s j p).1 (((readiness_tells list s).of_station j held.station).waiting_when.1 held.waits, held.at) in
      rw (waits, held.at, le-ltb (next_step list s j).own.op 4 two, shown first, shown second)
  only (because_behind i) b =
      rw (ready_is (readiness list s j) b.enabled, high b, ahead_first list s i b.ahead)
    where
      high : Behind list s j i → lowest list s j ≡ false
      high b = by_test (lowest list s j)
          (λ e. absurd (false≢true (sym b.lower ∙ (lowest_means list s j).0 e i b.ahead.chosen.station b.ahead.chosen.enabled)))
          (λ e. e)
  only may_be_picked c = rw (ready_is (readiness list s j) c.enabled, (lowest_means list s j).1 c.lowest)
  only because_absent l = rw (absent l)

  pub why_said : Known list s → why list s j ≡ said (reason list s j)
  unfolding why judge
  why_said known = rw (known.of_list, known.of_state)

pub refuses : Refuses why
unfolding why judge
refuses = record { of_list = λ list s j e. rw e; of_state = λ list s j e d. rw (e, d) }

pub true_reasons : TrueReasons why
true_reasons list s j known r = (
  λ h. let same : reason list s j ≡ r = said_one (sym (why_said list s j known) ∙ h) in rw same at (given list s j),
  λ h. why_said list s j known ∙ ap said (only list s j r h),
)

pub one_reason : OneReason
one_reason list s j = (reason list s j, given list s j, λ q h. sym (only list s j q h))

pub no_other : NoOther why
no_other asked right refused list s j =
    by_test (sound_list list)
    (λ sound.
    by_test (sound_state list s)
    (λ held.
    let known : Known list s = record { of_list = sound; of_state = held } in
    (right list s j known (reason list s j)).1 (given list s j) ∙ sym (why_said list s j known))
    (λ other. refused.of_state list s j sound other ∙ sym (refuses.of_state list s j sound other)))
    (λ other. refused.of_list list s j other ∙ sym (refuses.of_list list s j other))
