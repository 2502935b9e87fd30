-- What a refused call leaves, and that RUN is as many single steps as it says. Assumes nothing.
use mathlib.Core.Path.{◌≡◌, refl, sym, ◌∙◌}
use mathlib.Core.List.{List}
use Prim.Native.Nat.{ℕ, zero, suc, ◌+◌, min, ◌/◌}
use native.Mathlib.Omega.{arith}
use borrow.Author.Tests.{eqb-true, ne_eqb}
use lib.Dec.{eqb}
use lib.ListN.{length}
use Rattle.rules.specs.Words.{refusal}
use Rattle.rules.specs.Records.{pick_at}
use Rattle.rules.specs.State.{State}
use Rattle.rules.specs.Lent.{Lent}
use Rattle.rules.specs.Step.{stepped, step}
use Rattle.rules.specs.Run.{steps_from, run_tests, run}
use Rattle.laws.proofs.Choice.{by_test}
use Rattle.laws.proofs.Answers.{start_leaves, step_state, step_refused, step_leaves, undo_refused}
use Rattle.rules.specs.Calls.{ruled}
use Rattle.rules.specs.History.{CHECK, BUILD, START, STEP, RUN, UNDO, LIGHTS, Now, stepped_on, single_steps, called}
use Rattle.history.specs.Calls.{RefusedLeaves, RunSingle}

-- a run is as many single steps as it says
steps_are_single : (list picks : List ℕ) (i count : ℕ) (now : Now)
    → let a = steps_from list picks i count now.state now.lent in
    single_steps ruled list picks i a.steps now
    ≡ record { state = a.state; lent = a.lent; standing = (single_steps ruled list picks i a.steps now).standing }
unfolding steps_from single_steps stepped_on
steps_are_single list picks i zero now = refl
steps_are_single list picks i (suc count) now =
    let p = pick_at picks i in
    let a = step list now.state now.lent p in
    by_test (eqb a.number 0)
    (λ y. rw y (steps_are_single list picks (suc i) count (stepped_on ruled list now p)))
    (λ y. rw y)

run_is_single : (list : List ℕ) (now : Now) (picks : List ℕ) (most : ℕ)
    → called ruled list now (RUN picks most) ≡ single_steps ruled list picks 0 (run list now.state now.lent picks most).steps now
unfolding called run single_steps
run_is_single list now picks most =
    by_test (eqb (refusal (run_tests list now.state picks)) 0)
    (λ y. rw y (sym (steps_are_single list picks 0 (min most (length picks / 2)) now)))
    (λ y. rw y)

-- each of a run's steps is one step more
steps_counted : (list picks : List ℕ) (i count : ℕ) (s : State) (lent : Lent)
    → let a = steps_from list picks i count s lent in
    a.state.m ≡ s.m + a.steps
unfolding steps_from stepped
steps_counted list picks i zero s lent = omega arith
steps_counted list picks i (suc count) s lent =
    let a = step list s lent (pick_at picks i) in
    by_test (eqb a.number 0)
    (λ y.
    let one : a.state.m ≡ s.m + 1 = rw (step_state list s lent (pick_at picks i) (eqb-true _ 0 y)) in
    rw y (omega (arith, steps_counted list picks (suc i) count a.state a.lent)))
    (λ y. rw y (omega arith))

run_counted : (list : List ℕ) (s : State) (lent : Lent) (picks : List ℕ) (most : ℕ)
    → let a = run list s lent picks most in
    a.state.m ≡ s.m + a.steps
unfolding run
run_counted list s lent picks most =
    by_test (eqb (refusal (run_tests list s picks)) 0)
    (λ y. rw y (steps_counted list picks 0 (min most (length picks / 2)) s lent))
    (λ y. rw y (omega arith))

pub run_single : RunSingle ruled
run_single list now picks most = (run_is_single list now picks most, run_counted list now.state now.lent picks most)

pub refused_leaves : RefusedLeaves ruled
unfolding called stepped_on single_steps
refused_leaves list now (CHECK file) refused none = refl
refused_leaves list now (BUILD file buffer) refused none = refl
refused_leaves list now (START b resets) refused none =
    let no = ne_eqb _ 0 refused in
    rw (no, start_leaves list b resets now.lent no)
refused_leaves list now (STEP p) refused none =
    let no = ne_eqb _ 0 refused in
    rw (no, step_refused list now.state now.lent p no, step_leaves list now.state now.lent p no)
refused_leaves list now (RUN picks most) refused none = run_is_single list now picks most ∙ rw none
refused_leaves list now UNDO refused none =
    let no = ne_eqb _ 0 refused in
    rw (no, undo_refused list now.state now.lent no)
refused_leaves list now LIGHTS refused none = refl
