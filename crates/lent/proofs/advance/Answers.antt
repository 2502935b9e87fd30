-- `lent::advance` meets its contract: a refused step answers the state given, so that leaving the state where it is stores its answer.
-- Assumes nothing.
use Rattle.std.proofs.Common.{ne_eqb}
use Rattle.lent.proofs.Refused.{stays}
use Rattle.lent.proofs.advance.Goals as goal

pub returns-else-taken-eq0 : goal.returns-else-taken-eq0
returns-else-taken-eq0 c = stays _ _ _ _ _ _ c.step-taken.ensures
    (rw (ne_eqb c.step-taken.result.number 0 c.if-taken-eq0.false) tt)
