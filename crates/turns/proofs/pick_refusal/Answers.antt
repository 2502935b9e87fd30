-- `turns::pick_refusal` meets its contract: the first test that refuses decides. Assumes nothing.
use borrow.Author.Tests.{eq-eqb, ne_eqb}
use Rattle.std.proofs.Common.{◌≡◌, true, rules}
use Rattle.rules.specs.Words.{judge}
use Rattle.turns.proofs.pick_refusal.Goals as goal

pub returns-then-told-ne0 : goal.returns-then-told-ne0
returns-then-told-ne0 c = rw (ne_eqb _ _ c.if-told-ne0.true)

pub returns-then-not-lowest : goal.returns-then-not-lowest
unfolding judge
returns-then-not-lowest c = rw (eq-eqb _ _ c.if-told-ne0.false, c.if-not-lowest.true)

pub returns-then-above : goal.returns-then-above
unfolding judge
returns-then-above c =
    let asked : c.args.lowest ≡ true = search rules in
    rw (eq-eqb _ _ c.if-told-ne0.false, asked, c.if-above.true)

pub returns : goal.returns
unfolding judge
returns c = rw (eq-eqb _ _ c.if-told-ne0.false, c.if-not-lowest.false, c.if-above.false)
