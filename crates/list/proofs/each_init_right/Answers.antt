-- `list::each_init_right` meets its contract. Assumes nothing.
use mathlib.Core.Path.{refl}
use borrow.Author.Rules.{rules}
use borrow.Author.Tests.{tests}
use Rattle.rules.specs.List.{init_right}
use Rattle.chains.proofs.All.{each_from_below}
use Rattle.list.proofs.each_init_right.Goals as goal

pub returns : goal.returns
returns c =
    let a = c.args in
    each_from_below _ _ _ c.all.result (init_right a.list.now a.later) a.n refl c.all.ensures.ran (λ x b q k. search (rules, tests))
