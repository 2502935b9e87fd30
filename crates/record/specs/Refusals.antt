-- The code's refusals, seen as the documents' numbers. These are definitions.
use Rattle.std.specs.Prelude.{ℕ, Result, Ok, Err}
use Rattle.rules.specs.Names as names
use Rattle.record.specs.declared.refusal.Refusal.{Refusal}
use Rattle.record.specs.declared.refusal.Refusal.TheVariants as refusals

abbrev pub number_of : Refusal → ℕ
number_of refusals.Length = names.LENGTH
number_of refusals.Field = names.FIELD
number_of refusals.Count = names.COUNT
number_of refusals.Shape = names.SHAPE
number_of refusals.Depth = names.DEPTH
number_of refusals.Room = names.ROOM
number_of refusals.List = names.LIST
number_of refusals.State = names.STATE
number_of refusals.Full = names.FULL
number_of refusals.Component = names.COMPONENT
number_of refusals.NotReady = names.NOT_READY
number_of refusals.Turn = names.TURN
number_of refusals.Reset = names.RESET
number_of refusals.Empty = names.EMPTY
number_of refusals.Log = names.LOG
number_of refusals.Ended = names.ENDED

-- the number that an outcome is told by: 0 where nothing is refused
abbrev pub told_number : {A : Type 0} → Result A Refusal → ℕ
told_number (Ok x) = 0
told_number (Err refusal) = number_of refusal
