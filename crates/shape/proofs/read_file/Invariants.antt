-- `shape::read_file` meets its contract. The loop's invariant: the records before the place are the initial part, and the
-- shape is found from the place on. Assumes nothing.
use Rattle.shape.proofs.File.{Initial}
use Rattle.shape.proofs.read_file.Given as goal

abbrev pub invariant-loop-at : goal.invariant-loop-at
invariant-loop-at l = Initial l.file l.at
