-- What advancing a lent state answers, with the state that it leaves and what it was lent, seen as the rules' answer of a step. This is a definition.
use Rattle.std.specs.Prelude.{ℕ}
use Rattle.rules.specs.Lent.{Lent}
use Rattle.rules.specs.Step as rules
use Rattle.state.specs.View.{as_state}
use Rattle.state.specs.declared.State.{State}

abbrev pub as_advanced : ℕ → State → Lent → rules.Stepped
as_advanced number state lent = record { number = number; state = as_state state; lent = lent }
