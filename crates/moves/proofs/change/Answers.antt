-- `moves::change` meets its contract: a SET assigns, and every other kind leaves the variables.
-- Assumes nothing.
use mathlib.Core.Path.{◌∙◌}
use borrow.Author.Tests.{eq-eqb, ne_eqb}
use Rattle.rules.specs.Names.{SET}
use Rattle.record.specs.View.{as_record}
use Rattle.values.proofs.Looks.{assigned_looks}
use Rattle.moves.proofs.change.Goals as goal

pub returns-then-r-eq-SET : goal.returns-then-r-eq-SET
returns-then-r-eq-SET c =
    let a = c.args in
    rw (eq-eqb _ SET c.if-r-eq-SET.true) (c.assign.ensures ∙ assigned_looks a.vars.now (as_record a.r))

pub returns-else-r-eq-SET : goal.returns-else-r-eq-SET
returns-else-r-eq-SET c = rw (ne_eqb _ SET c.if-r-eq-SET.false)
