-- `values::assign` meets its contract: past the last variable the rules change nothing. Assumes nothing.
use Rattle.std.proofs.Common.{sym, arith}
use lib.Seq.{set_out}
use Rattle.values.proofs.assign.Goals as goal

pub returns-else-a-vars : goal.returns-else-a-vars
returns-else-a-vars c = let a = c.before.args in sym (set_out a.vars.now a.a _ (omega arith))
