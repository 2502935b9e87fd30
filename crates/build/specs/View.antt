-- What build answers and leaves in the lent buffer, seen as the rules' answer. These are definitions.
use Rattle.std.specs.Prelude.{ℕ, List, Result, Ok, Err}
use Rattle.rules.specs.Build as rules
use Rattle.record.specs.Refusals.{number_of}
use Rattle.sequence.specs.declared.Fault.{Fault}
use Rattle.build.specs.declared.Built.{Built}

abbrev pub as_built : Built → List ℕ → rules.Built
as_built r buffer = record { number = r.number; place = r.place; count = r.count; buffer = buffer }

-- the answer that an outcome is told by: the count of list records, or the refusal and its place
abbrev pub told_built : Result ℕ Fault → List ℕ → rules.Built
told_built (Ok count) buffer = record { number = 0; place = 0; count = count; buffer = buffer }
told_built (Err fault) buffer = record { number = number_of fault.refusal; place = fault.place; count = 0; buffer = buffer }
