-- "Checking it": five tests in this order, each over the whole file. These are definitions.
use Rattle.std.specs.Prelude.{ℕ, ◌*◌, ◌%◌, Bool, ◌||◌, ◌&&◌, not, List, [], ◌∷◌, eqb, leb, ltb, length}
use Rattle.rules.specs.Words.{first, tally, values, Answer, Test, ◌refuses◌at◌, judge}
use Rattle.rules.specs.Names.{LENGTH, FIELD, COUNT, SHAPE, DEPTH, STATION, max_records, max_stations}
use Rattle.rules.specs.Records.{record_at, record_count}
use Rattle.rules.specs.Fields.{fields_right}
use Rattle.rules.specs.Shape.{well_shaped, shape_place, too_deep_at}

-- the kind of each record
abbrev pub kinds : List ℕ → List ℕ
kinds file = values (λ i. (record_at file i).kind) (record_count file)

-- "bytes not a multiple of 8, none, or more than 8,192"
unfoldable pub wrong_length : List ℕ → Bool
wrong_length file = not (eqb (length file % 8) 0) || eqb (length file) 0 || ltb (8 * max_records) (length file)

-- "first record outside the table above"; the number of records where there is none
unfoldable pub field_place : List ℕ → ℕ
field_place file = first (λ i. not (fields_right (record_at file i))) (record_count file)

-- the file's STATION records, wherever they stand
unfoldable pub station_count : List ℕ → ℕ
station_count file = tally (λ i. eqb (record_at file i).kind STATION) (record_count file)

unfoldable pub depth_place : List ℕ → ℕ
depth_place file = too_deep_at 0 (kinds file)

abbrev pub check_tests : List ℕ → List Test
check_tests file =
    (wrong_length file refuses LENGTH at 0)
    ∷ (ltb (field_place file) (record_count file) refuses FIELD at field_place file)
    ∷ (not (leb 1 (station_count file) && leb (station_count file) max_stations) refuses COUNT at 0)
    ∷ (not (well_shaped (kinds file)) refuses SHAPE at shape_place (kinds file))
    ∷ (ltb (depth_place file) (record_count file) refuses DEPTH at depth_place file)
    ∷ []

-- "An accepted sequence answers 0 and place 0"
unfoldable pub check : List ℕ → Answer
check file = judge (check_tests file)
