-- `starts::resets_within` meets its contract. Assumes nothing.
use Rattle.std.proofs.Common.{◌≡◌, true, false, leb, rules}
use Rattle.std.proofs.lemmas.Iterator.{cases_from_all, YieldsList-from_slice}
use Rattle.chains.proofs.All.{each_from_row}
use Rattle.starts.proofs.resets_within.Goals as goal

pub returns : goal.returns
returns c =
    let a = c.args in
    each_from_row c.all.result (λ x. leb x a.b) a.resets.now
    (cases_from_all _ _ c.all.result (λ x. leb x a.b ≡ true) (λ x. leb x a.b ≡ false) c.all.ensures.ran (YieldsList-from_slice a.resets.now cc)
    (λ x q k. search rules) (λ x q k. search rules))
