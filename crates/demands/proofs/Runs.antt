-- Where the rules' RUN stops, and with which number; and that this leaves one answer. Assumes nothing.
use mathlib.Core.Path.{◌≡◌, refl, sym, ap, ◌∙◌}
use mathlib.Core.Logic.{◌≢◌}
use mathlib.Core.List.{List}
use Prim.Native.Nat.{ℕ, zero, suc, ◌+◌, ◌/◌, ◌≤◌, ◌<◌, min}
use native.Mathlib.Nat.{zero-add}
use native.Mathlib.Omega.{arith}
use borrow.Author.Tests.{eqb-true, eqb-false, ltb-true, ltb-false}
use lib.Dec.{eqb, ltb}
use lib.ListN.{length}
use Rattle.rules.specs.Words.{judge, refusal}
use Rattle.rules.specs.Records.{pick_at}
use Rattle.rules.specs.State.{State}
use Rattle.rules.specs.Lent.{Lent}
use Rattle.rules.specs.Step.{step}
use Rattle.rules.specs.Run.{Ran, run_tests, steps_from, run}
use Rattle.rules.specs.Calls.{ruled}
use Rattle.laws.proofs.Choice.{by_test}
use Rattle.demands.specs.Order.{before_steps}
use Rattle.demands.specs.Runs.{Singles, none, one_more, Stops, RunStops}
use Rattle.demands.proofs.Order.{judge_number}

-- RUN's own tests, as a chain of choices
tests_number : (list : List ℕ) (s : State) (picks : List ℕ) → refusal (run_tests list s picks) ≡ before_steps list s picks
unfolding judge
tests_number list s picks = simp judge_number

module _ (list picks : List ℕ) (s : State) (lent : Lent) where
  -- the steps of a run go on from those before it
  singles_on : (count k : ℕ) (t : State) (left : Lent) → Singles ruled list picks s lent k t left
      → let a = steps_from list picks k count t left in
      Singles ruled list picks s lent (k + a.steps) a.state a.lent
  unfolding steps_from
  singles_on zero k t left before = let e : k + 0 ≡ k = omega arith in rw e before
  singles_on (suc count) k t left before =
      let a = step list t left (pick_at picks k) in
      by_test (eqb a.number 0)
      (λ y.
      let next = steps_from list picks (suc k) count a.state a.lent in
      let e : k + suc next.steps ≡ suc k + next.steps = omega arith in
      rw (y, e) (singles_on count (suc k) a.state a.lent (one_more before (eqb-true _ 0 y))))
      (λ y. let e : k + 0 ≡ k = omega arith in rw (y, e) before)

-- where they stop
record Ends (list picks : List ℕ) (i count : ℕ) (a : Ran) : Type 0 where
  within : a.steps ≤ count
  to_the_end : a.number ≡ 0 → a.steps ≡ count
  refused : a.number ≢ 0 → (a.steps < count) × ((step list a.state a.lent (pick_at picks (i + a.steps))).number ≡ a.number)

steps_end : (list picks : List ℕ) (i count : ℕ) (s : State) (lent : Lent) → Ends list picks i count (steps_from list picks i count s lent)
unfolding steps_from
steps_end list picks i zero s lent = record { within = omega arith; to_the_end = λ z. refl; refused = λ h. absurd (h refl) }
steps_end list picks i (suc count) s lent =
    let a = step list s lent (pick_at picks i) in
    by_test (eqb a.number 0)
    (λ y.
    let next = steps_from list picks (suc i) count a.state a.lent in
    let r = steps_end list picks (suc i) count a.state a.lent in
    let e : suc i + next.steps ≡ i + suc next.steps = omega arith in
    rw y
    (record {
      within = omega (arith, r.within);
      to_the_end = λ z. ap suc (r.to_the_end z);
      refused = λ h. (omega (arith, (r.refused h).0), rw e at (r.refused h).1);
    }))
    (λ y.
    let e : i + 0 ≡ i = omega arith in
    rw y (record { within = omega arith; to_the_end = λ z. absurd (eqb-false a.number 0 y z); refused = λ h. (omega arith, rw e) }))

stops : (list picks : List ℕ) (count : ℕ) (s : State) (lent : Lent)
    → Stops ruled list picks s lent count (steps_from list picks 0 count s lent)
stops list picks count s lent =
    let a = steps_from list picks 0 count s lent in
    let e = steps_end list picks 0 count s lent in
    let same = zero-add a.steps in
    record {
      singles = rw same at (singles_on list picks s lent count 0 s lent none);
      within = e.within;
      to_the_end = λ z. omega (arith, e.to_the_end z);
      refused = λ h. ((e.refused h).0, rw same at (e.refused h).1);
    }

pub run_stops : RunStops ruled
unfolding run
run_stops list s lent picks most =
    let n = tests_number list s picks in
    by_test (eqb (refusal (run_tests list s picks)) 0)
    (λ y. record {
      refused_first = λ h. absurd (h (sym n ∙ eqb-true _ 0 y));
      stops = λ z. rw y (stops list picks (min most (length picks / 2)) s lent);
    })
    (λ y. record { refused_first = λ h. rw (y, n); stops = λ z. absurd (eqb-false _ 0 y (n ∙ z)) })

-- so many single steps lead to one state and one log
module _ {list picks : List ℕ} {s : State} {lent : Lent} where
  pub singles_same : {k : ℕ} {t u : State} {left rest : Lent} → Singles ruled list picks s lent k t left → Singles ruled list picks s lent k u rest
      → (t ≡ u) × (left ≡ rest)
  singles_same none none = (refl, refl)
  singles_same (one_more x e) (one_more y f) = let h = singles_same x y in (rw (h.0, h.1), rw (h.0, h.1))

  -- and each of them was taken
  pub taken_before : {k : ℕ} {t : State} {left : Lent} → Singles ruled list picks s lent k t left → (j : ℕ) → j < k
      → (u : State) × (rest : Lent) × Singles ruled list picks s lent j u rest × ((step list u rest (pick_at picks j)).number ≡ 0)
  taken_before none j l = absurd (omega arith)
  taken_before (one_more {k} {t} {left} x e) j l =
      by_test (eqb j k)
      (λ y. let same = eqb-true j k y in rw same (t, left, x, e))
      (λ y. let other = eqb-false j k y in taken_before x j (omega arith))

  -- so no answer makes fewer steps than another
  not_fewer : {count : ℕ} {a b : Ran} → Stops ruled list picks s lent count a → Stops ruled list picks s lent count b → a.steps < b.steps → ⊥
  not_fewer {count} {a} {b} x y fewer =
      let (u, rest, before, taken) = taken_before y.singles a.steps fewer in
      let same = singles_same before x.singles in
      let there : (step list a.state a.lent (pick_at picks a.steps)).number ≡ 0 = rw (same.0, same.1) at taken in
      by_test (eqb a.number 0)
      (λ e. omega (arith, x.to_the_end (eqb-true _ 0 e), y.within))
      (λ e. eqb-false _ 0 e (sym (x.refused (eqb-false _ 0 e)).1 ∙ there))

  pub stops_only : {count : ℕ} {a b : Ran} → Stops ruled list picks s lent count a → Stops ruled list picks s lent count b → a ≡ b
  stops_only {count} {a} {b} x y =
      let steps : a.steps ≡ b.steps = equal in
      let same = singles_same (rw steps at x.singles) y.singles in
      let number : a.number ≡ b.number =
      by_test (eqb a.number 0)
      (λ e. by_test (eqb b.number 0) (λ f. eqb-true _ 0 e ∙ sym (eqb-true _ 0 f))
      (λ f. absurd (omega (arith, x.to_the_end (eqb-true _ 0 e), (y.refused (eqb-false _ 0 f)).0))))
      (λ e. by_test (eqb b.number 0) (λ f. absurd (omega (arith, y.to_the_end (eqb-true _ 0 f), (x.refused (eqb-false _ 0 e)).0)))
      (λ f. sym (x.refused (eqb-false _ 0 e)).1 ∙ rw (same.0, same.1, steps) (y.refused (eqb-false _ 0 f)).1)) in
      λ i. record { number = number i; state = same.0 i; steps = steps i; lent = same.1 i }
    where
      equal : a.steps ≡ b.steps
      equal =
          by_test (ltb a.steps b.steps) (λ l. absurd (not_fewer x y (ltb-true _ _ l)))
          (λ l. by_test (ltb b.steps a.steps) (λ m. absurd (not_fewer y x (ltb-true _ _ m)))
          (λ m. omega (arith, ltb-false a.steps b.steps l, ltb-false b.steps a.steps m)))
