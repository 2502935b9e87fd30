-- What SHAPE says of a file's kinds, by the grammar alone, and what DEPTH counts: the parts that SHAPE's walk holds open.
-- These are definitions.
use Rattle.std.specs.Prelude.{ℕ, suc, ◌<◌, ◌≡◌, Bool, false, ◌&&◌, not, List, [], ◌∷◌, eqb, leb, ltb, length, get_or, take, if◌then◌else◌}
use Rattle.rules.specs.Names.{STATION, max_depth, max_stations}
use Rattle.rules.specs.Records.{record_count}
use Rattle.rules.specs.Shape.{Part, Stand, initial, within, wrong, walked, opens}
use Rattle.rules.specs.Check.{wrong_length, field_place, station_count}
use Rattle.grammar.specs.Grammar.{Sequence, Continues}

-- "the first record after which no continuation … is well shaped; if there is none and the file is unfinished, the number of records"
pub data Fault (kinds : List ℕ) (place : ℕ) : Type 0 where
  at_record : place < length kinds → Continues (take place kinds) → (Continues (take (suc place) kinds) → ⊥) → Fault kinds place
  unfinished : place ≡ length kinds → Continues kinds → (Sequence kinds → ⊥) → Fault kinds place

-- the file passes the tests that come before SHAPE
pub record Passes-three (file : List ℕ) : Type 0 where
  pub length_right : wrong_length file ≡ false
  pub fields_right : ltb (field_place file) (record_count file) ≡ false
  pub count_right : not (leb 1 (station_count file) && leb (station_count file) max_stations) ≡ false

-- how many of these parts belong to an IF, a WHILE or an AWAIT, and not to a station
unfoldable pub nesting : List Part → ℕ
nesting [] = 0
nesting (part ∷ parts) = if eqb part.closed_by STATION then nesting parts else suc (nesting parts)

abbrev pub nesting_at : Stand → ℕ
nesting_at initial = 0
nesting_at (within part parts) = nesting (part ∷ parts)
nesting_at wrong = 0

-- how many IF, WHILE and AWAIT are open when record i is read
abbrev pub open_at : List ℕ → ℕ → ℕ
open_at kinds i = nesting_at (walked initial (take i kinds))

-- "record that is the seventeenth open", itself counted
abbrev pub seventeenth : List ℕ → ℕ → Bool
seventeenth kinds i = opens (get_or kinds i 0) && leb max_depth (open_at kinds i)
