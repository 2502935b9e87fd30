-- `list::later` meets its contract. Assumes nothing.
use mathlib.Core.Path.{◌≡◌, ◌∙◌}
use mathlib.Core.Bool.{Bool, true, false, not}
use Prim.Native.Nat.{ℕ, ◌+◌, ◌*◌}
use lib.Dec.{eqb}
use lib.ListN.{get_or}
use borrow.Author.Rules.{rules}
use borrow.Author.Tests.{tests}
use Rattle.std.proofs.lemmas.Iterator.{first_from_Range}
use Rattle.rules.specs.Names.{no_station}
use Rattle.rules.specs.Records.{list_record_at, list_count}
use Rattle.rules.specs.List.{initials_after}
use Rattle.list.proofs.Ranges.{first_or_past}
use Rattle.list.proofs.later.Goals as goal

pub returns : goal.returns
unfolding initials_after list_record_at
returns c =
    let list = c.args.list.now in
    let stationed : ℕ → Bool = λ p. not (eqb (get_or list (16 * p + 8) 0) no_station) in
    c.unwrap_or.ensures
    ∙ rw c.max.ensures (first_or_past stationed c.args.n (list_count list) c.find.result
    (first_from_Range _ _ _ _ (λ p. stationed p ≡ true) (λ p. stationed p ≡ false) c.find.ensures.ran
    (λ x q k. search (rules, tests)) (λ x q k. search (rules, tests))))
