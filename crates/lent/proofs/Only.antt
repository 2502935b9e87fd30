-- No second answer meets advance's promise: the number, the state that it leaves and what it was lent are what the rules say. Assumes nothing.
use mathlib.Core.Path.{◌≡◌, ap}
use mathlib.Core.List.{List}
use Prim.Native.Nat.{ℕ}
use Rattle.rules.specs.Records.{Pick}
use Rattle.rules.specs.Lent.{Lent}
use Rattle.rules.specs.State as rules_state
use Rattle.state.specs.declared.State.{State}
use Rattle.run.specs.declared.Outcome.{Outcome}
use Rattle.run.proofs.Only.{step_only}
use Rattle.lent.specs.Promises.{AdvancePromise}

pub advance_only : (list : List ℕ) (given : rules_state.State) (lent : Lent) (p : Pick) (r s : ℕ) (left found : State) (after later : Lent)
    → AdvancePromise list given lent p r left after → AdvancePromise list given lent p s found later
    → (r ≡ s) × (left ≡ found) × (after ≡ later)
advance_only list given lent p r s left found after later e f =
    let (answer, logs) = step_only list given lent p (record { number = r; state = left }) (record { number = s; state = found }) after later e f in
    (ap (λ (a : Outcome). a.number) answer, ap (λ (a : Outcome). a.state) answer, logs)
