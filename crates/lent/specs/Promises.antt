-- What `advance` promises. Its contract cites this, and proofs/Only.antt shows that no second answer meets it. The other calls of the panel
-- cite the promise of what they call. This is a definition.
use Rattle.std.specs.Prelude.{ℕ, ◌≡◌, List}
use Rattle.rules.specs.Records.{Pick}
use Rattle.rules.specs.State as rules_state
use Rattle.rules.specs.Lent.{Lent}
use Rattle.rules.specs.Step as rules
use Rattle.state.specs.declared.State.{State}
use Rattle.lent.specs.View.{as_advanced}

-- what advancing promises of the number that it answers, of the state that it leaves and of what was lent afterwards
abbrev pub AdvancePromise : List ℕ → rules_state.State → Lent → Pick → ℕ → State → Lent → Type 0
AdvancePromise list given lent p number left after = as_advanced number left after ≡ rules.step list given lent p
