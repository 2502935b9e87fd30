-- A built-in list as a run reads it: its whole records, with the variables' numbers a and b of each taken modulo 32. A sound list is
-- read as it is, which proofs/Narrow.antt has; of any other a and b name variables that are there. These are definitions.
use Rattle.std.specs.Prelude.{ℕ, ◌*◌, ◌%◌, List, [], ◌∷◌, get_or, if◌then◌else◌}
use Rattle.rules.specs.Words.{among, values}
use Rattle.rules.specs.Names.{variables}
use Rattle.rules.specs.Records.{list_count}

-- byte i of it: bytes 1 and 2 of a record are its a and b
abbrev pub narrow_byte : List ℕ → ℕ → ℕ
narrow_byte list i = if among (i % 16) (1 ∷ 2 ∷ []) then get_or list i 0 % variables else get_or list i 0

unfoldable pub narrow : List ℕ → List ℕ
narrow list = values (narrow_byte list) (16 * list_count list)
