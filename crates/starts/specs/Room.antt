-- Room for start records. These are definitions.
use Rattle.std.specs.Prelude.{ℕ, ◌*◌, Bool, ◌&&◌, List, leb, length}
use Rattle.rules.specs.Names.{max_stations}

-- so many start records are of at most eight stations, and a log has the bytes for them
abbrev pub room : ℕ → List ℕ → Bool
room n log = leb n max_stations && leb (2 * n) (length log)
