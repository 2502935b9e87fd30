-- The steps taken are FAIR's, and counted; and no other outcome of a pick is. Assumes nothing.
use mathlib.Core.Path.{refl, sym, ◌∙◌}
use mathlib.Core.List.{List}
use Prim.Native.Nat.{ℕ, ◌≤◌, ◌<◌}
use native.Mathlib.Omega.{arith}
use borrow.Author.Tests.{eqb-true, eqb-false, eq-eqb, ne_eqb}
use lib.Dec.{eqb}
use Rattle.rules.specs.Names.{max_stations}
use Rattle.rules.specs.Records.{Pick}
use Rattle.rules.specs.State.{State, priority, count}
use Rattle.rules.specs.Lent.{Lent}
use Rattle.rules.specs.Ready.{ready}
use Rattle.rules.specs.Step.{stepped}
use Rattle.rules.specs.Calls.{ruled}
use Rattle.laws.proofs.Choice.{by_test}
use Rattle.fair.specs.Fair.{Update, Counted}
use Rattle.fair.specs.Relation.{StepFair, StepCounts, UpdateOnly, CountedOnly}
use Rattle.fair.specs.Sound.{Held}
use Rattle.laws.specs.Passed.{CanStep}
use Rattle.laws.proofs.Sound.{at_most_eight}
use Rattle.laws.proofs.Answers.{step_state}
use Rattle.fair.proofs.Charge.{charge_at, count_at}
use Rattle.fair.proofs.Taken.{step_taken}

module _ (list : List ℕ) (s : State) (p : Pick) (held : Held s) (few : s.n ≤ max_stations) where
  updated : p.station < s.n → p.reset ≤ s.b
      → Update s.n (ready list s) s.b (priority s) (priority (stepped list s p)) p.station p.reset
  updated there r =
      let after = charge_at list s p (omega (arith, held.priorities)) in
      record {
        bounded = r;
        picked = after p.station there ∙ rw (eq-eqb p.station p.station refl);
        charged = λ j l d e. after j l ∙ rw (ne_eqb j p.station d, e);
        stays = λ j l d e. after j l ∙ rw (ne_eqb j p.station d, e);
      }

  counts : p.station < s.n → Counted s.n (ready list s) (count s) (count (stepped list s p)) p.station
  counts there =
      let after = count_at list s p (omega (arith, held.counts)) in
      record {
        picked = after p.station there ∙ rw (eq-eqb p.station p.station refl);
        passed = λ j l d e. after j l ∙ rw (ne_eqb j p.station d, e);
        stays = λ j l d e. after j l ∙ rw (ne_eqb j p.station d, e);
      }

-- the stations of a step that is taken are eight at most
taken_few : (list : List ℕ) (s : State) (lent : Lent) → CanStep list s lent → s.n ≤ max_stations
taken_few list s lent can = at_most_eight (record { of_list = can.of_list; of_state = can.of_state })

pub step_fair : StepFair ruled
step_fair list s lent p held h =
    let (can, c, r) = (step_taken list s lent p).0 h in
    rw (step_state list s lent p h) (c, updated list s p held (taken_few list s lent can) c.station r)

pub step_counts : StepCounts ruled
step_counts list s lent p held h =
    let (can, c, r) = (step_taken list s lent p).0 h in
    rw (step_state list s lent p h) (counts list s p held (taken_few list s lent can) c.station)

pub update_only : UpdateOnly
update_only n ready b z x y i reset u v j l =
    by_test (eqb j i)
    (λ e. rw (eqb-true j i e) (u.picked ∙ sym v.picked))
    (λ e. let other = eqb-false j i e in
    by_test (ready j) (λ r. u.charged j l other r ∙ sym (v.charged j l other r)) (λ r. u.stays j l other r ∙ sym (v.stays j l other r)))

pub counted_only : CountedOnly
counted_only n ready c x y i u v j l =
    by_test (eqb j i)
    (λ e. rw (eqb-true j i e) (u.picked ∙ sym v.picked))
    (λ e. let other = eqb-false j i e in
    by_test (ready j) (λ r. u.passed j l other r ∙ sym (v.passed j l other r)) (λ r. u.stays j l other r ∙ sym (v.stays j l other r)))
