-- `touches::Touched::with_record` meets its contract: what its b and its k name is read, and what a SET's a names is written.
-- Assumes nothing.
use Rattle.record.specs.View.{as_record}
use Rattle.touches.proofs.Variables.{with_record_by}
use Rattle.touches.proofs.Touched.with_record.Goals as goal

pub returns : goal.returns
returns c =
    with_record_by c.args.self (as_record c.args.own)
    (rw c.reads_b.ensures at c.added-with_b.ensures)
    (rw c.reads_k.ensures at c.added-reads.ensures)
    c.added-writes.ensures
