-- What `readiness` promises. Its contract cites this, and proofs/Only.antt shows that no second answer meets it. This is a definition.
use Rattle.std.specs.Prelude.{ℕ, ◌≡◌, List}
use Rattle.rules.specs.State.{State}
use Rattle.rules.specs.Asked.{asked}
use Rattle.readiness.specs.View.{as_told}
use Rattle.readiness.specs.declared.Told.{Told}

-- what it promises of its answer, for a state and a station given
abbrev pub ReadinessPromise : List ℕ → State → ℕ → Told → Type 0
ReadinessPromise list given station r = as_told r ≡ asked list given station
