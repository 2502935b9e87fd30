-- The shape of a file: nothing more of a well shaped one, and of any other the place at which it is broken. These are definitions.
use Rattle.std.specs.Prelude.{ℕ, ◌*◌, List, Result, Ok, Err, leb, length, if◌then◌else◌}
use Rattle.rules.specs.Names.{max_records}
use Rattle.rules.specs.Shape.{well_shaped, shape_place}
use Rattle.rules.specs.Check.{kinds}

-- the shape of a file, by the rules
abbrev pub shape_of : List ℕ → Result Unit ℕ
shape_of kinds = if well_shaped kinds then Ok tt else Err (shape_place kinds)

-- the shape of a file; one of more than 1,024 records is not read
abbrev pub file_shape : List ℕ → Result Unit ℕ
file_shape file = if leb (length file) (8 * max_records) then shape_of (kinds file) else Err 0
