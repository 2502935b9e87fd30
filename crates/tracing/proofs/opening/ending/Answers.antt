-- `tracing::opening::ending` meets its contract.
-- Assumes nothing.
use Rattle.tracing.proofs.opening.ending.Goals as goal

pub returns : goal.returns
returns c = rw c.zeros.ensures
