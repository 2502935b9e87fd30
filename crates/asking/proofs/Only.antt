-- No second answer meets the promise of `readiness`. Assumes nothing.
use mathlib.Core.Path.{◌≡◌, sym, ap, ◌∙◌}
use mathlib.Core.List.{List}
use Prim.Native.Nat.{ℕ}
use Rattle.rules.specs.Words.{Answer}
use Rattle.rules.specs.State.{State}
use Rattle.readiness.specs.declared.Told.{Told}
use Rattle.asking.specs.Promises.{ReadinessPromise}

-- the answer that the rules' is the view of
abbrev of_answer : Answer → Told
of_answer a = record { number = a.number; place = a.place }

pub readiness_only : (list : List ℕ) (given : State) (station : ℕ) (r s : Told)
    → ReadinessPromise list given station r → ReadinessPromise list given station s → r ≡ s
readiness_only list given station r s e f = ap of_answer (e ∙ sym f)
