-- An accepted file as an initial part and stations of statements. These are definitions.
use Rattle.std.specs.Prelude.{ℕ, suc, ◌+◌, eqb, if◌then◌else◌}
use mathlib.Core.List.{List, [], ◌∷◌, tail}
use Rattle.rules.specs.Names.{SKIP, SET, IF, WHILE, AWAIT}
use Rattle.rules.specs.Records.{Record, records}

-- a list of statements: nothing, or a statement with its record (SKIP has nothing to tell) and then the rest
pub data Statements : Type 0 where
  nothing : Statements
  skip : Statements → Statements
  assign : Record → Statements → Statements
  branch : Record → Statements → Statements → Statements → Statements
  loop : Record → Statements → Statements → Statements
  await : Record → Statements → Statements → Statements

-- one statement more before the innermost part; its first one or two parts become the parts of one statement
abbrev pub before : (Statements → Statements) → List Statements → List Statements
before put [] = []
before put (rest ∷ parts) = put rest ∷ parts

abbrev pub round_one : (Statements → Statements → Statements) → List Statements → List Statements
round_one put [] = []
round_one put (x ∷ parts) = before (put x) parts

abbrev pub round_two : (Statements → Statements → Statements → Statements) → List Statements → List Statements
round_two put [] = []
round_two put (x ∷ parts) = round_one (put x) parts

-- "The records between an opening record and its close are read as a part of their own". Files are read from the last record to the
-- first, so that a close, an ELSE or a STATION begins a part, and an opening record takes its parts and puts itself before the rest
abbrev pub read_on : Record → List Statements → List Statements
read_on r parts =
    if eqb r.kind SKIP then before skip parts
    else if eqb r.kind SET then before (assign r) parts
    else if eqb r.kind IF then round_two (branch r) parts
    else if eqb r.kind WHILE then round_one (loop r) parts
    else if eqb r.kind AWAIT then round_one (await r) parts
    else nothing ∷ parts

unfoldable pub parts_of : List Record → List Statements
parts_of [] = nothing ∷ []
parts_of (r ∷ rs) = read_on r (parts_of rs)

-- what stands before the first STATION is the initial part, and the other parts are the stations in file order
unfoldable pub stations_of : List ℕ → List Statements
stations_of file = tail (parts_of (records file))

-- "any number of SET records (the initial part)"
unfoldable pub leading_sets : List Record → List Record
leading_sets [] = []
leading_sets (r ∷ rs) = if eqb r.kind SET then r ∷ leading_sets rs else []

unfoldable pub initial_part : List ℕ → List Record
initial_part file = leading_sets (records file)

-- how many SKIP, SET, IF, WHILE and AWAIT records there are in it
unfoldable pub size : Statements → ℕ
size nothing = 0
size (skip rest) = suc (size rest)
size (assign r rest) = suc (size rest)
size (branch r x y rest) = suc (size x + size y + size rest)
size (loop r x rest) = suc (size x + size rest)
size (await r x rest) = suc (size x + size rest)
