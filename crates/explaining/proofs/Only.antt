-- No second answer meets the promise of `why`. Assumes nothing.
use mathlib.Core.Path.{◌≡◌, sym, ap, ◌∙◌}
use mathlib.Core.List.{List}
use Prim.Native.Nat.{ℕ}
use Rattle.rules.specs.State.{State}
use Rattle.rules.specs.Why as rules
use Rattle.reason.specs.declared.Why.{Why}
use Rattle.explaining.specs.Promises.{WhyPromise}

-- the answer that the rules' is the view of
abbrev of_why : rules.Why → Why
of_why a =
    record {
      number = a.number;
      ahead = a.ahead;
      place = a.place;
      count = a.count;
      variables = a.variables;
      values = a.values;
    }

pub why_only : (list : List ℕ) (given : State) (station : ℕ) (r s : Why) → WhyPromise list given station r → WhyPromise list given station s → r ≡ s
why_only list given station r s e f = ap of_why (e ∙ sym f)
