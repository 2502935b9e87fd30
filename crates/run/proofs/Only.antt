-- No second answer meets the promise of a run call: what the rules say is the whole answer, and all that was lent afterwards. Assumes nothing.
use mathlib.Core.Path.{◌≡◌, sym, ap, ◌∙◌}
use mathlib.Core.List.{List}
use Prim.Native.Nat.{ℕ}
use Rattle.rules.specs.Records.{Pick}
use Rattle.rules.specs.Lent.{Lent}
use Rattle.rules.specs.State as rules_state
use Rattle.rules.specs.Start as rules_start
use Rattle.rules.specs.Step as rules_step
use Rattle.rules.specs.Run as rules_run
use Rattle.rules.specs.Undo as rules_undo
use Rattle.state.specs.declared.State.{State}
use Rattle.run.specs.declared.Outcome.{Outcome}
use Rattle.run.specs.declared.Ran.{Ran}
use Rattle.run.specs.Promises.{StartPromise, StepPromise, RunPromise, UndoPromise}

-- the state that the rules' state is the view of
abbrev of_state : rules_state.State → State
of_state s =
    record {
      vars = s.vars;
      positions = s.positions;
      priorities = s.priorities;
      counts = s.counts;
      n = s.n;
      b = s.b;
      m = s.m;
    }

pub start_only : (list : List ℕ) (b : ℕ) (resets : List ℕ) (lent : Lent) (r s : Outcome) (after later : Lent)
    → StartPromise list b resets lent r after → StartPromise list b resets lent s later → (r ≡ s) × (after ≡ later)
start_only list b resets lent r s after later e f =
    let g = e ∙ sym f in
    (ap (λ (a : rules_start.Started). record { number = a.number; state = of_state a.state }) g, ap (λ (a : rules_start.Started). a.lent) g)

pub step_only : (list : List ℕ) (given : rules_state.State) (lent : Lent) (p : Pick) (r s : Outcome) (after later : Lent)
    → StepPromise list given lent p r after → StepPromise list given lent p s later → (r ≡ s) × (after ≡ later)
step_only list given lent p r s after later e f =
    let g = e ∙ sym f in
    (ap (λ (a : rules_step.Stepped). record { number = a.number; state = of_state a.state }) g, ap (λ (a : rules_step.Stepped). a.lent) g)

pub run_only : (list : List ℕ) (given : rules_state.State) (lent : Lent) (picks : List ℕ) (most : ℕ) (r s : Ran) (after later : Lent)
    → RunPromise list given lent picks most r after → RunPromise list given lent picks most s later → (r ≡ s) × (after ≡ later)
run_only list given lent picks most r s after later e f =
    let g = e ∙ sym f in
    (ap (λ (a : rules_run.Ran). record { number = a.number; state = of_state a.state; steps = a.steps }) g, ap (λ (a : rules_run.Ran). a.lent) g)

pub undo_only : (list : List ℕ) (given : rules_state.State) (lent : Lent) (r s : Outcome)
    → UndoPromise list given lent r → UndoPromise list given lent s → r ≡ s
undo_only list given lent r s e f =
    ap (λ (a : rules_undo.Undone). record { number = a.number; state = of_state a.state }) (e ∙ sym f)
