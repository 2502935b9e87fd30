-- What the code answers, seen as the rules' answer, and a name for the rules' test of the number of stations. These are definitions.
use Rattle.std.specs.Prelude.{ℕ, Bool, ◌&&◌, not, List, Result, Ok, Err, leb}
use Rattle.rules.specs.Words.{Answer}
use Rattle.rules.specs.Names.{max_stations}
use Rattle.rules.specs.Check.{station_count}
use Rattle.record.specs.Refusals.{number_of}
use Rattle.sequence.specs.declared.Checked.{Checked}
use Rattle.sequence.specs.declared.Fault.{Fault}

abbrev pub answer : ℕ → ℕ → Answer
answer number place = record { number = number; place = place }

abbrev pub as_answer : Checked → Answer
as_answer checked = answer checked.number checked.place

abbrev pub as_fault : Fault → Answer
as_fault fault = answer (number_of fault.refusal) fault.place

-- the answer that an outcome is told by: 0 and place 0 where nothing is refused
abbrev pub told_answer : {A : Type 0} → Result A Fault → Answer
told_answer (Ok x) = answer 0 0
told_answer (Err fault) = as_fault fault

-- "STATION records not 1 to 8"
abbrev pub wrong_count : List ℕ → Bool
wrong_count file = not (leb 1 (station_count file) && leb (station_count file) max_stations)
