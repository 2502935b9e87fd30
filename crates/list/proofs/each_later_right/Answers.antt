-- `list::each_later_right` meets its contract. Assumes nothing.
use mathlib.Core.Path.{refl}
use borrow.Author.Rules.{rules}
use borrow.Author.Tests.{tests}
use Rattle.rules.specs.Records.{list_count}
use Rattle.rules.specs.List.{later_right}
use Rattle.chains.proofs.All.{each_from_range}
use Rattle.list.proofs.each_later_right.Goals as goal

pub returns : goal.returns
returns c =
    let a = c.args in
    each_from_range _ _ _ c.all.result (later_right a.list.now a.n a.later) a.later (list_count a.list.now) refl c.all.ensures.ran (λ x b q k. search (rules, tests))
