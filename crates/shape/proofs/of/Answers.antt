-- `shape::of` meets its contract: the test of the length picks the answer. Assumes nothing.
use borrow.Author.Tests.{le-leb, lt-leb}
use Rattle.shape.proofs.of.Goals as goal

pub returns-then-file : goal.returns-then-file
returns-then-file c = rw (lt-leb _ _ c.if-file.true)

pub returns : goal.returns
returns c = rw (le-leb _ _ c.if-file.false) c.read_file.ensures
