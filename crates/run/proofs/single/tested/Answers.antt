-- `run::single::tested` meets its contract. Assumes nothing.
use borrow.Author.Tests.{eq-eqb, ne_eqb}
use Rattle.rules.specs.Words.{judge}
use Rattle.run.proofs.single.tested.Goals as goal

pub returns-then-picks-eq1 : goal.returns-then-picks-eq1
unfolding judge
returns-then-picks-eq1 c = rw (eq-eqb _ _ c.if-picks-eq1.true)

pub returns : goal.returns
unfolding judge
returns c = rw (ne_eqb _ _ c.if-picks-eq1.false) c.judged.ensures
