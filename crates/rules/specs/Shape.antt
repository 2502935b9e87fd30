-- SHAPE and DEPTH: a walk over the kinds of a file's records, from the first to the last, that keeps what is open.
-- These are definitions.
use Rattle.std.specs.Prelude.{ℕ, suc, ◌-◌, Bool, true, false, ◌&&◌, not, List, [], ◌∷◌, eqb, leb, if◌then◌else◌}
use Rattle.rules.specs.Words.{among}
use Rattle.rules.specs.Names.{STATION, SKIP, SET, IF, ELSE, FI, WHILE, OD, AWAIT, END, max_depth}

-- an open list of statements: the kind that closes it, whether it stands in an AWAIT body, and whether it has a statement yet
pub record Part : Type 0 where
  pub closed_by : ℕ
  pub in_body : Bool
  pub begun : Bool

abbrev pub opened : ℕ → Bool → Part
opened kind in_body = record { closed_by = kind; in_body = in_body; begun = false }

-- the same part, with a statement more
abbrev pub grown : Part → Part
grown part = record { closed_by = part.closed_by; in_body = part.in_body; begun = true }

-- where the walk stands: in the initial part; in the innermost open part, with the parts around it; or past a record that nothing mends
pub data Stand : Type 0 where
  initial : Stand
  within : Part → List Part → Stand
  wrong : Stand

-- a close takes the walk back to the part around
abbrev pub leave : List Part → Stand
leave [] = wrong
leave (part ∷ parts) = within part parts

-- "A station is STATION and one or more statements", so STATION closes the station before; ELSE closes one part and opens another
abbrev pub close : ℕ → Bool → List Part → Stand
close kind in_body parts =
    if eqb kind STATION then within (opened STATION false) parts
    else if eqb kind ELSE then within (opened FI in_body) parts
    else leave parts

-- "Shape: any number of SET records (the initial part), then stations", one record at a time.
-- "A body holds SKIP, SET and IF only, at every depth"; "each list of statements has at least one"
unfoldable pub stride : Stand → ℕ → Stand
stride initial kind =
    if eqb kind SET then initial
    else if eqb kind STATION then within (opened STATION false) []
    else wrong
stride (within part parts) kind =
    if among kind (SKIP ∷ SET ∷ []) then within (grown part) parts
    else if eqb kind IF then within (opened ELSE part.in_body) (grown part ∷ parts)
    else if eqb kind WHILE && not part.in_body then within (opened OD false) (grown part ∷ parts)
    else if eqb kind AWAIT && not part.in_body then within (opened END true) (grown part ∷ parts)
    else if eqb kind part.closed_by && part.begun then close kind part.in_body parts
    else wrong
stride wrong kind = wrong

abbrev pub is_wrong : Stand → Bool
is_wrong initial = false
is_wrong (within part parts) = false
is_wrong wrong = true

-- the last station has a statement, and nothing else is open
abbrev pub finished : Stand → Bool
finished initial = false
finished (within part []) = part.begun
finished (within part (outer ∷ parts)) = false
finished wrong = false

-- the place of the first record that takes the walk wrong; the number of records where none does
unfoldable pub wrong_at : Stand → List ℕ → ℕ
wrong_at stand [] = 0
wrong_at stand (kind ∷ kinds) = if is_wrong (stride stand kind) then 0 else suc (wrong_at (stride stand kind) kinds)

-- the walk to the end
unfoldable pub walked : Stand → List ℕ → Stand
walked stand [] = stand
walked stand (kind ∷ kinds) = walked (stride stand kind) kinds

unfoldable pub well_shaped : List ℕ → Bool
well_shaped kinds = finished (walked initial kinds)

-- "the first record after which no continuation … is well shaped; if there is none and the file is unfinished, the number of records"
abbrev pub shape_place : List ℕ → ℕ
shape_place kinds = wrong_at initial kinds

-- "IF, WHILE and AWAIT each count one"
abbrev pub opens : ℕ → Bool
opens kind = among kind (IF ∷ WHILE ∷ AWAIT ∷ [])

-- how many are open after a record of this kind
abbrev pub depth_after : ℕ → ℕ → ℕ
depth_after depth kind =
    if opens kind then suc depth
    else if among kind (FI ∷ OD ∷ END ∷ []) then depth - 1
    else depth

-- the place of the "first record that is the seventeenth open", with so many open before; the number of records where there is none
unfoldable pub too_deep_at : ℕ → List ℕ → ℕ
too_deep_at depth [] = 0
too_deep_at depth (kind ∷ kinds) =
    if opens kind && leb max_depth depth then 0
    else suc (too_deep_at (depth_after depth kind) kinds)
