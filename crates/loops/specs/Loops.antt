-- Where the WHILE of each OD stands in the list, in the order of the ODs: the file's records are read from the first to the last.
-- These are definitions.
use Rattle.std.specs.Prelude.{ℕ, ◌+◌, ◌-◌, ◌/◌, List, [], ◌∷◌, eqb, ltb, get_or, set, replicate, if◌then◌else◌}
use Rattle.rules.specs.Words.{among}
use Rattle.rules.specs.Names.{STATION, SKIP, SET, IF, WHILE, OD, AWAIT, max_records, max_depth}
use Rattle.rules.specs.Records.{Record}
use Rattle.loops.specs.declared.Seeking.{Seeking}

-- the most loops of a file: each has a WHILE and an OD
abbrev pub max_loops : ℕ
max_loops = max_records / 2

-- before the first record
abbrev pub seeking : ℕ → Seeking
seeking place = record { place = place; depth = 0; whiles = replicate (max_depth + 1) 0; found = 0 }

-- one more, and 65,535 of 65,535
abbrev pub more : ℕ → ℕ
more x = if ltb x 65535 then x + 1 else x

-- after an OD, with so many found: the innermost loop is no longer open
abbrev pub left : ℕ → Seeking → Seeking
left found s = record { place = s.place; depth = s.depth - 1; whiles = s.whiles; found = found }

-- after a record of this kind. Each STATION but the first stands for a STOP; the first makes up for a start that is one too low
unfoldable pub sought : ℕ → Seeking → Seeking
sought kind s =
    if eqb kind WHILE
    then record {
      place = more s.place;
      depth = (if ltb s.depth max_depth then s.depth + 1 else s.depth);
      whiles = (if ltb s.depth max_depth then set s.whiles (s.depth + 1) s.place else s.whiles);
      found = s.found;
    }
    else if eqb kind OD then left (if ltb s.found max_loops then s.found + 1 else s.found) s
    else if among kind (STATION ∷ SKIP ∷ SET ∷ IF ∷ AWAIT ∷ [])
    then record { place = more s.place; depth = s.depth; whiles = s.whiles; found = s.found }
    else s

-- the place of an OD's WHILE is the innermost open one
unfoldable pub noted : ℕ → Seeking → List ℕ → List ℕ
noted kind s places = if eqb kind OD then set places s.found (get_or s.whiles s.depth 0) else places

-- what was sought and what was found
pub record Sought : Type 0 where
  pub seeking : Seeking
  pub places : List ℕ

unfoldable pub seek_record : Record → Sought → Sought
seek_record r x = record { seeking = sought r.kind x.seeking; places = noted r.kind x.seeking x.places }

-- over records, from the first to the last
unfoldable pub seek_records : List Record → Sought → Sought
seek_records [] x = x
seek_records (r ∷ rs) x = seek_records rs (seek_record r x)

abbrev pub nothing_sought : ℕ → Sought
nothing_sought place = record { seeking = seeking place; places = replicate max_loops 0 }
