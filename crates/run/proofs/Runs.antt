-- The steps of a run, one at a time: what the steps to come answer, counted on from the steps taken. Assumes nothing.
use Prim.Native.Nat.{ℕ, suc, ◌+◌, ◌-◌, ◌<◌}
use mathlib.Core.Path.{◌≡◌}
use mathlib.Core.List.{List}
use native.Mathlib.Numerals.{add-one}
use native.Mathlib.Omega.{arith}
use lib.Dec.{eqb}
use borrow.Author.Tests.{eq-eqb}
use Rattle.rules.specs.Words.{refusal}
use Rattle.rules.specs.Records.{Pick, pick_at}
use Rattle.rules.specs.State.{State}
use Rattle.rules.specs.Lent.{Lent}
use Rattle.rules.specs.Step.{step_tests, step}
use Rattle.rules.specs.Run.{Ran, one_more, steps_from}
use Rattle.laws.proofs.Choice.{by_test}
use Rattle.stepping.specs.Logged.{room_left, logged}

-- counted on from k steps
abbrev pub counted : ℕ → Ran → Ran
counted k r = record { number = r.number; state = r.state; steps = k + r.steps; lent = r.lent }

pub counted_none : (r : Ran) → r ≡ counted 0 r
counted_none r = let none : 0 + r.steps ≡ r.steps = omega arith in rw none

counted_more : (k : ℕ) (r : Ran) → counted k (one_more r) ≡ counted (k + 1) r
counted_more k r = let e : k + suc r.steps ≡ k + 1 + r.steps = omega arith in rw e

-- no step is left
pub run_ended : (list picks : List ℕ) (count : ℕ) (s : State) (lent : Lent)
    → counted count (steps_from list picks count (count - count) s lent) ≡ record { number = 0; state = s; steps = count; lent = lent }
unfolding steps_from
run_ended list picks count s lent =
    let none : count - count ≡ 0 = omega arith in
    let whole : count + 0 ≡ count = omega arith in
    rw (none, whole)

module _ (list picks : List ℕ) (count k : ℕ) (s : State) (lent : Lent) where
  -- the next step is taken
  pub run_taken : k < count → let a = step list s lent (pick_at picks k) in
      a.number ≡ 0
      → counted k (steps_from list picks k (count - k) s lent)
      ≡ counted (k + 1) (steps_from list picks (k + 1) (count - (k + 1)) a.state a.lent)
  unfolding steps_from
  run_taken within taken =
      let left : count - k ≡ suc (count - (k + 1)) = omega arith in
      rw (left, eq-eqb _ 0 taken, ← add-one k) (counted_more k _)

  -- or refused
  pub run_refused : k < count → let a = step list s lent (pick_at picks k) in
      (a.number ≡ 0 → ⊥)
      → counted k (steps_from list picks k (count - k) s lent) ≡ record { number = a.number; state = a.state; steps = k; lent = a.lent }
  unfolding steps_from step
  run_refused within refused =
      let left : count - k ≡ suc (count - (k + 1)) = omega arith in
      let none : k + 0 ≡ k = omega arith in
      by_test (eqb (refusal (step_tests list s lent (pick_at picks k))) 0)
      (λ e. let z : (step list s lent (pick_at picks k)).number ≡ 0 = rw e in absurd (refused z))
      (λ e. rw (left, e, e, none))

-- a step leaves B as it is
pub logged_b : (list : List ℕ) (s : State) (lent : Lent) (p : Pick) → (logged list s lent p).state.b ≡ s.b
unfolding logged
logged_b list s lent p = by_test (eqb (refusal (room_left s lent)) 0) (λ e. rw e) (λ e. rw e)
