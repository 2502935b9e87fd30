-- Room in a log. This is a definition.
use Rattle.std.specs.Prelude.{ℕ, ◌+◌, ◌*◌, Bool, List, leb, length}

-- a log has the bytes of n start records, of m steps and of one step more
abbrev pub has_room : ℕ → ℕ → List ℕ → Bool
has_room n m log = leb (2 * (n + m + 1)) (length log)
