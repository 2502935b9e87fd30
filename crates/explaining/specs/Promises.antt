-- What `why` promises. Its contract cites this, and proofs/Only.antt shows that no second answer meets it. This is a definition.
use Rattle.std.specs.Prelude.{ℕ, ◌≡◌, List}
use Rattle.rules.specs.State.{State}
use Rattle.rules.specs.Why as rules
use Rattle.reason.specs.View.{as_why}
use Rattle.reason.specs.declared.Why.{Why}

-- what it promises of its answer, for a state and a station given
abbrev pub WhyPromise : List ℕ → State → ℕ → Why → Type 0
WhyPromise list given station r = as_why r ≡ rules.why list given station
