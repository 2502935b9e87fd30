-- Calls that meet the first two demands answer as the rules do, and so have the rules' histories. Assumes nothing.
use mathlib.Core.Path.{◌≡◌, sym, ap, ◌∙◌}
use mathlib.Core.Logic.{◌≢◌}
use mathlib.Core.List.{List}
use Prim.Native.Nat.{ℕ}
use borrow.Author.Tests.{eqb-true, eqb-false}
use lib.Dec.{eqb}
use Rattle.rules.specs.Words.{Answer}
use Rattle.rules.specs.Records.{Pick, pick_at}
use Rattle.rules.specs.Check.{check}
use Rattle.rules.specs.Build.{build}
use Rattle.rules.specs.State.{State}
use Rattle.rules.specs.Lent.{Lent}
use Rattle.rules.specs.Start.{start}
use Rattle.rules.specs.Step.{Stepped, step}
use Rattle.rules.specs.Run.{Ran, run}
use Rattle.rules.specs.Undo.{undo}
use Rattle.rules.specs.Lights.{lights}
use Rattle.rules.specs.Calls.{Seven, ruled}
use Rattle.laws.proofs.Choice.{by_test}
use Rattle.lit.proofs.Only.{shows_only}
use Rattle.lit.proofs.Shown.{lights_show}
use Rattle.fair.specs.Sound.{Held}
use Rattle.demands.specs.Order.{before_steps}
use Rattle.demands.specs.Runs.{Stops}
use Rattle.demands.specs.Demands.{Demand1, Demand2}
use Rattle.demands.specs.Only.{NoOther}
use Rattle.demands.proofs.Order.{check_order, build_order, start_order, step_order, undo_order, lights_order, refusal_leaves}
use Rattle.demands.proofs.Runs.{run_stops, stops_only}
use Rattle.demands.proofs.Unrefused.{start_same, step_same as taken_same, singles_ruled}
use Rattle.demands.proofs.Does.{build_lays, lays_only, undo_replays}

-- two answers with the same number are the same if they are where it is 0 and where it is not
by_number : {A : Type 0} (n : ℕ) → (n ≡ 0 → A) → (n ≢ 0 → A) → A
by_number n taken refused = by_test (eqb n 0) (λ e. taken (eqb-true n 0 e)) (λ e. refused (eqb-false n 0 e))

module _ (bench : Seven) (one : Demand1 bench) (two : Demand2 bench) where
  same_check : (file : List ℕ) → bench.check file ≡ check file
  same_check file = one.check_order file ∙ sym (check_order file)

  same_build : (file buffer : List ℕ) → bench.build file buffer ≡ build file buffer
  same_build file buffer =
      let place : (bench.build file buffer).place ≡ (build file buffer).place =
      (one.build_order file buffer).1 ∙ ap (λ (a : Answer). a.place) (same_check file) ∙ sym (build_order file buffer).1 in
      let number : (bench.build file buffer).number ≡ (build file buffer).number =
      (one.build_order file buffer).0 ∙ rw (same_check file) (sym (build_order file buffer).0) in
      by_number (build file buffer).number
      (λ z. lays_only number place (two.build_lays file buffer (number ∙ z)) (build_lays file buffer z))
      (λ h.
      let x = one.leaves.by_build file buffer (λ z. h (sym number ∙ z)) in
      let y = refusal_leaves.by_build file buffer h in
      let count = x.1 ∙ sym y.1 in
      let left = x.0 ∙ sym y.0 in
      λ i. record { number = number i; place = place i; count = count i; buffer = left i })

  same_start : (list : List ℕ) (b : ℕ) (resets : List ℕ) (lent : Lent) → bench.start list b resets lent ≡ start list b resets lent
  same_start list b resets lent =
      let number : (bench.start list b resets lent).number ≡ (start list b resets lent).number =
      one.start_order list b resets lent ∙ sym (start_order list b resets lent) in
      by_number (start list b resets lent).number
      (λ z. start_same bench two list b resets lent z)
      (λ h.
      let x = one.leaves.by_start list b resets lent (λ z. h (sym number ∙ z)) in
      let y = refusal_leaves.by_start list b resets lent h in
      let state = x.0 ∙ sym y.0 in
      let left = x.1 ∙ sym y.1 in
      λ i. record { number = number i; state = state i; lent = left i })

  same_step : (list : List ℕ) (s : State) (lent : Lent) (p : Pick) → Held s → bench.step list s lent p ≡ step list s lent p
  same_step list s lent p held =
      let number : (bench.step list s lent p).number ≡ (step list s lent p).number =
      one.step_order list s lent p ∙ sym (step_order list s lent p) in
      by_number (step list s lent p).number
      (λ z. taken_same bench two list s lent p held z)
      (λ h.
      let x = one.leaves.by_step list s lent p (λ z. h (sym number ∙ z)) in
      let y = refusal_leaves.by_step list s lent p h in
      let state = x.0 ∙ sym y.0 in
      let left = x.1 ∙ sym y.1 in
      λ i. record { number = number i; state = state i; lent = left i })

  same_stops : {list picks : List ℕ} {s : State} {lent : Lent} {count : ℕ} {a : Ran} → Held s
      → Stops bench list picks s lent count a → Stops ruled list picks s lent count a
  same_stops {list} {picks} {s} {lent} {count} {a} held x =
      let before = singles_ruled bench two held x.singles in
      record {
        singles = before.0;
        within = x.within;
        to_the_end = x.to_the_end;
        refused = λ h.
            let r = x.refused h in
            (r.0, ap (λ (b : Stepped). b.number) (sym (same_step list a.state a.lent (pick_at picks a.steps) before.1)) ∙ r.1);
      }

  same_run : (list : List ℕ) (s : State) (lent : Lent) (picks : List ℕ) (most : ℕ) → Held s
      → bench.run list s lent picks most ≡ run list s lent picks most
  same_run list s lent picks most held =
      let x = one.run_stops list s lent picks most in
      let y = run_stops list s lent picks most in
      by_number (before_steps list s picks)
      (λ z. stops_only (same_stops held (x.stops z)) (y.stops z))
      (λ h. x.refused_first h ∙ sym (y.refused_first h))

  same_undo : (list : List ℕ) (s : State) (lent : Lent) → bench.undo list s lent ≡ undo list s lent
  same_undo list s lent =
      let number : (bench.undo list s lent).number ≡ (undo list s lent).number = one.undo_order list s lent ∙ sym (undo_order list s lent) in
      by_number (undo list s lent).number
      (λ z.
      let state = two.undo_replays list s lent (number ∙ z) ∙ sym (undo_replays list s lent z) in
      λ i. record { number = number i; state = state i })
      (λ h.
      let state = one.leaves.by_undo list s lent (λ z. h (sym number ∙ z)) ∙ sym (refusal_leaves.by_undo list s lent h) in
      λ i. record { number = number i; state = state i })

  same_lights : (list : List ℕ) (s : State) → bench.lights list s ≡ lights list s
  same_lights list s =
      let number : (bench.lights list s).number ≡ (lights list s).number = one.lights_order list s ∙ sym (lights_order list s) in
      by_number (lights list s).number
      (λ z. shows_only list s (bench.lights list s) (lights list s) number (two.lights_show list s (number ∙ z)) (lights_show list s z))
      (λ h.
      let x = one.leaves.by_lights list s (λ z. h (sym number ∙ z)) in
      let y = refusal_leaves.by_lights list s h in
      let ready = x.0 ∙ sym y.0 in
      let in_turn = x.1 ∙ sym y.1 in
      let waiting = x.2 ∙ sym y.2 in
      let ended = x.3 ∙ sym y.3 in
      let rows = x.4 ∙ sym y.4 in
      λ i. record { number = number i; ready = ready i; in_turn = in_turn i; waiting = waiting i; ended = ended i; rows = rows i })

pub no_other : NoOther
no_other bench one two =
    record {
      check = same_check bench one two;
      build = same_build bench one two;
      start = same_start bench one two;
      step = same_step bench one two;
      run = same_run bench one two;
      undo = same_undo bench one two;
      lights = same_lights bench one two;
    }
