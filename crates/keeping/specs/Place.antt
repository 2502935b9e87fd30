-- The kept place of a state. This is a definition.
use Rattle.std.specs.Prelude.{ℕ, ◌+◌, ◌/◌, Bool, ◌&&◌, List, leb, length}
use Rattle.rules.specs.Names.{kept_every, kept_length}
use Rattle.rules.specs.Kept.{kept_offset}

-- a buffer has the bytes of the kept place of the state after m steps, of which there is none for the state before the first
abbrev pub has_place : ℕ → List ℕ → Bool
has_place m kept = leb 1 m && leb (kept_offset (m / kept_every) + kept_length) (length kept)
