-- `list::each_initial_right` meets its contract. Assumes nothing.
use mathlib.Core.Path.{refl}
use borrow.Author.Rules.{rules}
use borrow.Author.Tests.{tests}
use Rattle.rules.specs.List.{initial_right}
use Rattle.chains.proofs.All.{each_from_range}
use Rattle.list.proofs.each_initial_right.Goals as goal

pub returns : goal.returns
returns c =
    let a = c.args in
    each_from_range _ _ _ c.all.result (initial_right a.list.now) a.n a.later refl c.all.ensures.ran (λ x b q k. search (rules, tests))
