-- The state in a kept place, read from the part of a buffer that begins there. This is a definition.
use Rattle.std.specs.Prelude.{ℕ, List, leb, length, if◌then◌else◌}
use Rattle.rules.specs.Names.{kept_length}
use Rattle.rules.specs.State.{State, zeros}
use Rattle.rules.specs.Kept.{kept_state}

-- all zeros where the part is shorter than a kept place
abbrev pub recalled : List ℕ → State
recalled part = if leb kept_length (length part) then kept_state part 1 else zeros
