-- `list::stations` meets its contract. Assumes nothing.
use mathlib.Core.Path.{◌≡◌, ◌∙◌}
use mathlib.Core.Bool.{Bool, true, false, not}
use Prim.Native.Nat.{ℕ, ◌*◌}
use lib.Dec.{eqb}
use lib.ListN.{get_or}
use borrow.Author.Rules.{rules}
use borrow.Author.Tests.{tests}
use Rattle.std.proofs.lemmas.Iterator.{first_from_Range}
use Rattle.rules.specs.Names.{INIT}
use Rattle.rules.specs.Records.{record_from, list_record_at, list_count}
use Rattle.rules.specs.List.{stations}
use Rattle.list.proofs.Ranges.{first_or_end}
use Rattle.list.proofs.stations.Goals as goal

pub returns : goal.returns
unfolding stations list_record_at record_from
returns c =
    let list = c.args.list.now in
    let other : ℕ → Bool = λ p. not (eqb (get_or list (16 * p) 0) INIT) in
    c.unwrap_or.ensures
    ∙ first_or_end other (list_count list) c.find.result
    (first_from_Range _ _ _ _ (λ p. other p ≡ true) (λ p. other p ≡ false) c.find.ensures.ran
    (λ x q k. search (rules, tests)) (λ x q k. search (rules, tests)))
