-- What demand 2 alone fixes: where the rules refuse nothing, START, STEP and RUN of calls that meet it answer as the rules do. Assumes
-- nothing.
use mathlib.Core.Path.{◌≡◌, sym, ap, subst, ◌∙◌}
use mathlib.Core.List.{List}
use Prim.Native.Nat.{ℕ, suc, ◌<◌}
use native.Mathlib.Omega.{arith}
use borrow.Author.Tests.{eqb-true, eqb-false, ltb-true, ltb-false}
use lib.Dec.{eqb, ltb}
use Rattle.rules.specs.Records.{Pick, pick_at}
use Rattle.rules.specs.State.{State}
use Rattle.rules.specs.Lent.{Lent}
use Rattle.rules.specs.Start.{start}
use Rattle.rules.specs.Step.{with_step, Stepped, step}
use Rattle.rules.specs.Run.{Ran, run}
use Rattle.rules.specs.Calls.{Seven, ruled}
use Rattle.laws.proofs.Choice.{by_test}
use Rattle.fair.specs.Sound.{Held}
use Rattle.fair.proofs.Held.{step_held}
use Rattle.fair.proofs.Taken.{step_taken}
use Rattle.demands.specs.Order.{before_steps}
use Rattle.demands.specs.Runs.{Singles, none, one_more, Stops}
use Rattle.demands.specs.Demands.{Demand2}
use Rattle.demands.proofs.Runs.{singles_same, taken_before, run_stops}
use Rattle.demands.proofs.Does.{start_when, start_begins, begins_only, step_does, does_only}

module _ (bench : Seven) (two : Demand2 bench) where
  pub start_same : (list : List ℕ) (b : ℕ) (resets : List ℕ) (lent : Lent) → (start list b resets lent).number ≡ 0
      → bench.start list b resets lent ≡ start list b resets lent
  start_same list b resets lent z =
      let zero = (two.start_when list b resets lent).1 ((start_when list b resets lent).0 z) in
      let x = two.start_begins list b resets lent zero in
      let y = start_begins list b resets lent z in
      let number : (bench.start list b resets lent).number ≡ (start list b resets lent).number = zero ∙ sym z in
      let state = begins_only x.0 y.0 in
      let left = x.1 ∙ sym y.1 in
      λ i. record { number = number i; state = state i; lent = left i }

  -- a step that the rules take, and one that it takes itself
  pub step_same : (list : List ℕ) (s : State) (lent : Lent) (p : Pick) → Held s → (step list s lent p).number ≡ 0
      → bench.step list s lent p ≡ step list s lent p
  step_same list s lent p held z =
      let zero = (two.taken_when list s lent p).1 ((step_taken list s lent p).0 z) in
      let x = two.step_does list s lent p held zero in
      let y = step_does list s lent p held z in
      let number : (bench.step list s lent p).number ≡ (step list s lent p).number = zero ∙ sym z in
      let state = does_only x.0 y.0 in
      let left = x.1 ∙ ap (with_step lent s p) state ∙ sym y.1 in
      λ i. record { number = number i; state = state i; lent = left i }

  step_own : (list : List ℕ) (s : State) (lent : Lent) (p : Pick) → Held s → (bench.step list s lent p).number ≡ 0
      → bench.step list s lent p ≡ step list s lent p
  step_own list s lent p held z = step_same list s lent p held ((step_taken list s lent p).1 ((two.taken_when list s lent p).0 z))

  -- its single steps are the rules'
  pub singles_ruled : {list picks : List ℕ} {s : State} {lent : Lent} {k : ℕ} {t : State} {left : Lent} → Held s
      → Singles bench list picks s lent k t left → Singles ruled list picks s lent k t left × Held t
  singles_ruled held none = (none, held)
  singles_ruled {list} {picks} {s} {lent} held (one_more {k} {t} {left} x e) =
      let before = singles_ruled held x in
      let p = pick_at picks k in
      let same = step_own list t left p before.1 e in
      subst (λ (a : Stepped). Singles ruled list picks s lent (suc k) a.state a.lent × Held a.state) (sym same)
      (one_more before.0 (ap (λ (a : Stepped). a.number) (sym same) ∙ e), step_held list t left p before.1)

  -- so a run that the rules do not refuse goes as far as theirs
  stops_same : {list picks : List ℕ} {s : State} {lent : Lent} {count : ℕ} {a b : Ran} → Held s → Stops bench list picks s lent count a
      → Stops ruled list picks s lent count b → b.number ≡ 0 → a ≡ b
  stops_same {list} {picks} {s} {lent} {count} {a} {b} held x y z =
      let all = y.to_the_end z in
      let steps : a.steps ≡ b.steps =
      by_test (ltb a.steps count) (λ l. absurd (not_short (ltb-true _ _ l) all)) (λ l. omega (arith, ltb-false a.steps count l, x.within)) in
      let same = singles_same (rw steps at (singles_ruled held x.singles).0) y.singles in
      let number : a.number ≡ b.number =
      by_test (eqb a.number 0) (λ e. eqb-true _ 0 e ∙ sym z)
      (λ e. absurd (omega (arith, (x.refused (eqb-false _ 0 e)).0))) in
      λ i. record { number = number i; state = same.0 i; steps = steps i; lent = same.1 i }
    where
      not_short : a.steps < count → b.steps ≡ count → ⊥
      not_short short all =
          let mine = singles_ruled held x.singles in
          let (u, rest, before, taken) = taken_before y.singles a.steps (omega (arith, all)) in
          let there = singles_same before mine.0 in
          let goes : (step list a.state a.lent (pick_at picks a.steps)).number ≡ 0 = rw (there.0, there.1) at taken in
          let zero = ap (λ (r : Stepped). r.number) (step_same list a.state a.lent (pick_at picks a.steps) mine.1 goes) ∙ goes in
          by_test (eqb a.number 0)
          (λ e. omega (arith, x.to_the_end (eqb-true _ 0 e)))
          (λ e. eqb-false _ 0 e (sym (x.refused (eqb-false _ 0 e)).1 ∙ zero))

  pub run_same : (list : List ℕ) (s : State) (lent : Lent) (picks : List ℕ) (most : ℕ) → Held s → (run list s lent picks most).number ≡ 0
      → bench.run list s lent picks most ≡ run list s lent picks most
  run_same list s lent picks most held z =
      let x = two.run_stops list s lent picks most in
      let y = run_stops list s lent picks most in
      by_test (eqb (before_steps list s picks) 0)
      (λ e. stops_same held (x.stops (eqb-true _ 0 e)) (y.stops (eqb-true _ 0 e)) z)
      (λ e. absurd (eqb-false _ 0 e (sym (ap (λ (a : Ran). a.number) (y.refused_first (eqb-false _ 0 e))) ∙ z)))
