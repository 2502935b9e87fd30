-- What `lights` promises. Its contract cites this, and proofs/Only.antt shows that no second answer meets it. This is a definition.
use Rattle.std.specs.Prelude.{ℕ, ◌≡◌, List}
use Rattle.rules.specs.State.{State}
use Rattle.rules.specs.Lights as rules
use Rattle.lights.specs.View.{as_lights}
use Rattle.lights.specs.declared.answer.Lights.{Lights}

-- what the lights promise of their answer, for a state given
abbrev pub LightsPromise : List ℕ → State → Lights → Type 0
LightsPromise list given r = as_lights r ≡ rules.lights list given
