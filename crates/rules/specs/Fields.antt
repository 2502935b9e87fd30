-- What the fields of a record may hold: the document's table of kinds. These are definitions.
use Rattle.std.specs.Prelude.{ℕ, Bool, true, false, ◌&&◌, List, [], ◌∷◌, eqb, ltb, get_or, if◌then◌else◌}
use Rattle.rules.specs.Words.{among}
use Rattle.rules.specs.Names.{STATION, SKIP, SET, IF, ELSE, FI, WHILE, OD, AWAIT, END, variables}
use Rattle.rules.specs.Records.{Record}

-- a field must be zero, must be a variable, is free, or belongs to a record outside the table
pub data Rule : Type 0 where
  naught variable free outside : Rule

-- "Each variable named is below 32"
abbrev pub obeys : Rule → ℕ → Bool
obeys naught v = eqb v 0
obeys variable v = ltb v variables
obeys free v = true
obeys outside v = false

-- a row of the table: the rule of each field
pub record Rules : Type 0 where
  pub a : Rule
  pub b : Rule
  pub op : Rule
  pub k : Rule

abbrev pub row : Rule → Rule → Rule → Rule → Rules
row a b op k = record { a = a; b = b; op = op; k = k }

-- no record of this kind and op is in the table
abbrev pub no_row : Rules
no_row = row outside outside outside outside

-- "STATION, SKIP, ELSE, FI, OD, END": all zero
abbrev pub bare_row : Rules
bare_row = row naught naught naught naught

-- "SET variable a", by op: k; b; b+k; b-k; b + variable k; b - variable k
abbrev pub set_rows : List Rules
set_rows =
    row variable naught free free
    ∷ row variable variable free naught
    ∷ row variable variable free free
    ∷ row variable variable free free
    ∷ row variable variable free variable
    ∷ row variable variable free variable
    ∷ []

-- "IF, WHILE, AWAIT", by op: b equals, differs from, is below, is at least k; the same against variable k
abbrev pub test_rows : List Rules
test_rows =
    row naught variable free free
    ∷ row naught variable free free
    ∷ row naught variable free free
    ∷ row naught variable free free
    ∷ row naught variable free variable
    ∷ row naught variable free variable
    ∷ row naught variable free variable
    ∷ row naught variable free variable
    ∷ []

unfoldable pub rules_of : ℕ → ℕ → Rules
rules_of kind op =
    if among kind (STATION ∷ SKIP ∷ ELSE ∷ FI ∷ OD ∷ END ∷ []) then bare_row
    else if eqb kind SET then get_or set_rows op no_row
    else if among kind (IF ∷ WHILE ∷ AWAIT ∷ []) then get_or test_rows op no_row
    else no_row

-- the record is in the table
unfoldable pub fields_right : Record → Bool
fields_right r =
    let rules = rules_of r.kind r.op in
    obeys rules.a r.a && obeys rules.b r.b && obeys rules.op r.op && obeys rules.k r.k
