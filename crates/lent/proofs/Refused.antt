-- What a refused step says of the state: it is the state given. Assumes nothing.
use mathlib.Core.Path.{◌≡◌, refl, sym, ap, ◌∙◌}
use mathlib.Core.Bool.{Bool, true, false, not}
use mathlib.Core.List.{List}
use Prim.Native.Nat.{ℕ}
use lib.Dec.{T as Holds, eqb}
use Rattle.rules.specs.Records.{Pick}
use Rattle.rules.specs.Lent.{Lent}
use Rattle.rules.specs.State as rules_state
use Rattle.rules.specs.Step as rules
use Rattle.laws.proofs.Answers.{step_refused}
use Rattle.state.specs.declared.State.{State}
use Rattle.run.specs.declared.Outcome.{Outcome}
use Rattle.state.specs.View.{as_state}
use Rattle.run.specs.Promises.{StepPromise}
use Rattle.lent.specs.Promises.{AdvancePromise}

fails : (y : Bool) → Holds (not y) → y ≡ false
fails true t = absurd t
fails false t = refl

-- where the number of a step's answer is not 0, the step leaves the state that it was given
pub stays : (s : State) (list : List ℕ) (lent : Lent) (p : Pick) (r : Outcome) (after : Lent) → StepPromise list (as_state s) lent p r after
    → Holds (not (eqb r.number 0)) → AdvancePromise list (as_state s) lent p r.number s after
stays s list lent p r after e t =
    let number = ap (λ (a : rules.Stepped). a.number) e in
    let given = step_refused list (as_state s) lent p (rw (← number) (fails _ t)) in
    ap (λ (x : rules_state.State). record { number = r.number; state = x; lent = after }) (sym given ∙ sym (ap (λ (a : rules.Stepped). a.state) e)) ∙ e
