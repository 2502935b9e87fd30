-- The line that says why a station was not picked, byte by byte. These are definitions.
use Rattle.std.specs.Prelude.{ℕ, List, [], ◌∷◌, ◌++◌, eqb, get_or, if◌then◌else◌}
use Prim.Native.Char.{code}
use Prim.Native.String.{String, [] as no_letters, ◌∷◌ as ◌before◌}
use Rattle.rules.specs.Names.{NOT_READY, TURN, ENDED}
use Rattle.rules.specs.Trace.{decimal}
use Rattle.rules.specs.Why.{Why}

-- the bytes of words in ASCII
unfoldable pub ascii : String → List ℕ
ascii no_letters = []
ascii (letter before letters) = code letter ∷ ascii letters

-- a variable and its value, as "v0 is 4"
unfoldable pub shown : ℕ → ℕ → List ℕ
shown variable value = ascii "v" ++ decimal variable ++ ascii " is " ++ decimal value

-- of a station that waits: the record, and the first variable that its condition names
unfoldable pub waits_for_one : Why → List ℕ
waits_for_one w =
    ascii " waits at record " ++ decimal w.place ++ ascii ": " ++ shown (get_or w.variables 0 0) (get_or w.values 0 0)

-- and the second
unfoldable pub waits_for_two : Why → List ℕ
waits_for_two w = waits_for_one w ++ ascii ", " ++ shown (get_or w.variables 1 0) (get_or w.values 1 0)

-- by how many it names
abbrev pub waits : Why → List ℕ
waits w = if eqb w.count 1 then waits_for_one w else waits_for_two w

-- what is said of the station, by the number
unfoldable pub said_of : Why → List ℕ
said_of w =
    if eqb w.number 0 then ascii " may be picked"
    else if eqb w.number TURN then ascii " is behind station " ++ decimal w.ahead
    else if eqb w.number NOT_READY then waits w
    else if eqb w.number ENDED then ascii " has ended"
    else ascii " is refused with " ++ decimal w.number

-- the line of station j
unfoldable pub why_line : ℕ → Why → List ℕ
why_line j w = ascii "station " ++ decimal j ++ said_of w ++ ascii "\n"
