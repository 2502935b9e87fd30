-- An open list of statements, and where a record takes the reading of it. These are definitions.
use Rattle.std.specs.Prelude.{ℕ, Bool, true, false, ◌&&◌, not, [], ◌∷◌, eqb, if◌then◌else◌}
use Rattle.rules.specs.Words.{among}
use Rattle.rules.specs.Names.{STATION, SKIP, SET, IF, ELSE, FI, WHILE, OD, AWAIT, END}
use Rattle.parts.specs.declared.Part.{Part}
use Rattle.parts.specs.declared.Stride.{Stride}
use Rattle.parts.specs.declared.Stride.TheVariants.{On, Into, Out, Off}

-- a list with no statement yet
abbrev pub opened : ℕ → Bool → Part
opened kind body = record { close = kind; body = body; begun = false }

-- the same list with a statement more
abbrev pub grown : Part → Part
grown part = record { close = part.close; body = part.body; begun = true }

-- where the record that closes a list takes the reading
abbrev pub closed : Part → Stride
closed part =
    if eqb part.close STATION then On (opened STATION false)
    else if eqb part.close ELSE then On (opened FI part.body)
    else Out

-- where a record of this kind takes the reading of a part
unfoldable pub stride_of : Part → ℕ → Stride
stride_of part kind =
    if among kind (SKIP ∷ SET ∷ []) then On (grown part)
    else if eqb kind IF then Into (opened ELSE part.body)
    else if eqb kind WHILE && not part.body then Into (opened OD false)
    else if eqb kind AWAIT && not part.body then Into (opened END true)
    else if eqb kind part.close && part.begun then closed part
    else Off
