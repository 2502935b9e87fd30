-- `starts::right` meets its contract. Assumes nothing.
use Rattle.std.proofs.Common.{refl, ◌*◌, ◌&&◌, eqb, leb, length, rules}
use borrow.Author.Tests.{le-leb}
use Rattle.rules.specs.Records.{pick_at}
use Rattle.chains.proofs.All.{each_from_below}
use Rattle.starts.proofs.right.Goals as goal

pub returns-then-n-log : goal.returns-then-n-log
returns-then-n-log c =
    let a = c.args in
    rw (le-leb (2 * a.n) (length a.log.now) c.if-n-log.true)
    (each_from_below _ _ _ c.all.result (λ j. eqb (pick_at a.log.now j).station j && leb (pick_at a.log.now j).reset a.b) a.n refl c.all.ensures.ran
    (λ x b q k. search rules))
