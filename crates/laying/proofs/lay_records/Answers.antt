-- `laying::lay_records` meets its contract: with i records still to be read, the layout and the list are those of the records
-- from i on, laid from the last to the first.
-- Assumes nothing.
use native.Mathlib.Omega.{arith}
use Rattle.rules.specs.Records.{record_at, record_count}
use Rattle.laying.proofs.Passes.{laid_none, laid_before}
use Rattle.laying.proofs.lay_records.Goals as goal

pub loop-i-init : goal.loop-i-init
loop-i-init c =
    let file = c.args.file.now in
    laid_none c.args.loops.now (record_at file) (record_count file) _

pub loop-i-preserved : goal.loop-i-preserved
loop-i-preserved c =
    let file = c.args.file.now in
    laid_before c.args.loops.now (record_at file) (record_count file) c.loop-i.i _ _ _ _ (omega arith) (omega arith) c.loop-i.invariant
    (rw c.at.ensures at c.lay_record-x.ensures.state)
    (rw c.at.ensures at c.lay_record-x.ensures.buffer)
