-- The line that is printed for a state. These are definitions.
use Rattle.std.specs.Prelude.{ℕ, List, [], leb, if◌then◌else◌}
use Rattle.rules.specs.Names.{max_stations}
use Rattle.rules.specs.State.{State}
use Rattle.rules.specs.Trace.{line}

-- the rules' line; nothing for a state of more than 8 stations, which no run reaches
abbrev pub line_of : List ℕ → State → List ℕ
line_of list s = if leb s.n max_stations then line list s else []
