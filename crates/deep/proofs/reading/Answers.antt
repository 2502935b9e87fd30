-- `deep::reading` meets its contract. Assumes nothing.
use Prim.Native.Nat.{◌*◌}
use lib.ListN.{length}
use borrow.Author.Tests.{le-leb, lt-leb}
use Rattle.rules.specs.Names.{max_records}
use Rattle.deep.proofs.reading.Goals as goal

pub returns-then-s : goal.returns-then-s
returns-then-s c = rw (lt-leb (length c.args.s.now) (8 * max_records) c.if-s.true)

pub read_few-requires : goal.read_few-requires
read_few-requires c = c.if-s.false

pub returns : goal.returns
returns c =
    rw (le-leb (length c.args.s.now) (8 * max_records) c.if-s.false) c.read_few.ensures
