-- A state keeps its 32 variables, 8 positions, 8 priorities and 8 counts. Assumes nothing.
use mathlib.Core.Path.{◌≡◌, refl, ◌∙◌}
use mathlib.Core.Bool.{true}
use mathlib.Core.List.{List}
use Prim.Native.Nat.{ℕ, zero, suc}
use native.Mathlib.Omega.{arith}
use borrow.Author.Tests.{eqb-true}
use lib.Dec.{eqb}
use lib.ListN.{length, replicate, length-set, length-append, length-replicate, length-map}
use Rattle.rules.specs.Names.{SET, AWAIT, variables}
use Rattle.rules.specs.Records.{Record, ListRecord, Pick, list_record_at, list_count}
use Rattle.rules.specs.List.{stations, initials, sound_list}
use Rattle.rules.specs.State.{State}
use Rattle.rules.specs.Values.{assigned}
use Rattle.rules.specs.Start.{initial_run, started}
use Rattle.rules.specs.Move.{vars_after, target_after, body_run, step_vars}
use Rattle.rules.specs.Step.{stepped, picked, step}
use Rattle.laws.proofs.Choice.{by_test}
use Rattle.laws.proofs.Places.{length_values}
use Rattle.fair.specs.Sound.{Held, StepHeld}
use Rattle.fair.proofs.Charge.{length_kept}
use Rattle.laws.proofs.Sound.{few_stations}
use Rattle.laws.proofs.Answers.{picked_state, picked_leaves, step_state, step_refused}

length_after : (vars : List ℕ) (r : Record) → length (vars_after vars r) ≡ length vars
length_after vars r = by_test (eqb r.kind SET) (λ e. rw e (length-set vars r.a _)) (λ e. rw e)

length_body : (list : List ℕ) (count place : ℕ) (vars : List ℕ) → length (body_run list count place vars) ≡ length vars
unfolding body_run
length_body list zero place vars = refl
length_body list (suc count) place vars =
    let e = list_record_at list place in
    by_test (eqb place 0) (λ z. rw (z, body_run))
    (λ z. rw (z, body_run) (length_body list count (target_after vars e) (vars_after vars e.own) ∙ length_after vars e.own))

length_step : (list vars : List ℕ) (e : ListRecord) → length (step_vars list vars e) ≡ length vars
unfolding step_vars
length_step list vars e =
    by_test (eqb e.own.kind AWAIT)
    (λ a. rw a (length_body list (list_count list) e.t1 vars))
    (λ a. rw a (length_after vars e.own))

length_initial : (list : List ℕ) (place count : ℕ) (vars : List ℕ) → length (initial_run list place count vars) ≡ length vars
unfolding initial_run
length_initial list place zero vars = refl
length_initial list place (suc count) vars =
    length_initial list (suc place) count (assigned vars (list_record_at list place).own) ∙ length-set vars _ _

pub stepped_held : (list : List ℕ) (s : State) (p : Pick) → Held s → Held (stepped list s p)
unfolding stepped
stepped_held list s p h =
    record {
      vars = length_step list s.vars _ ∙ h.vars;
      positions = length-set s.positions p.station _ ∙ h.positions;
      priorities = (length_kept list s p).0 ∙ h.priorities;
      counts = (length_kept list s p).1 ∙ h.counts;
    }

-- taken or refused, a pick answers a state that does
pub picked_held : (list : List ℕ) (s : State) (p : Pick) → Held s → Held (picked list s p).state
picked_held list s p h =
    by_test (eqb (picked list s p).number 0)
    (λ e. rw (picked_state list s p (eqb-true _ 0 e)) (stepped_held list s p h))
    (λ e. rw (picked_leaves list s p e) h)

pub step_held : StepHeld
step_held list s lent p h =
    by_test (eqb (step list s lent p).number 0)
    (λ e. rw (step_state list s lent p (eqb-true _ 0 e)) (stepped_held list s p h))
    (λ e. rw (step_refused list s lent p e) h)

pub started_held : (list : List ℕ) (b : ℕ) (resets : List ℕ) → sound_list list ≡ true → length resets ≡ stations list
    → Held (started list b resets)
unfolding started
started_held list b resets h n =
    let few = few_stations list h in
    record {
      vars = length_initial list (stations list) (initials list) (replicate variables 0);
      positions = simp (length-append, length_values, length-replicate) (omega arith);
      priorities = simp (length-append, length-map, length-replicate, n) (omega arith);
      counts = refl;
    }
