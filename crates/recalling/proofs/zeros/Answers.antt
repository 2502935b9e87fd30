-- `recalling::zeros` meets its contract. Assumes nothing.
use Prim.Native.Nat.{◌+◌}
use mathlib.Core.Path.{◌≡◌, ap, ◌∙◌}
use native.Mathlib.Omega.{arith}
use borrow.Author.Rules.{rules}
use mathlib.Core.Bool.{true, false}
use lib.Dec.{eqb}
use lib.ListN.{length, get_or, take, drop, length-drop}
use lib.Seq.{get_or-drop, length-take-le}
use borrow.Author.Tests.{le-leb, lt-leb}
use Rattle.std.proofs.lemmas.Iterator.{cases_from_all, YieldsList-from_slice}
use Rattle.std.proofs.lemmas.List.{get_or-take}
use Rattle.rules.specs.Words.{each}
use Rattle.rules.specs.Names.{kept_length}
use Rattle.rules.specs.Kept.{kept_zeros}
use Rattle.laws.proofs.Places.{each_same}
use Rattle.chains.proofs.All.{each_from_row}
use Rattle.recalling.proofs.zeros.Goals as goal

pub returns-then-part-lt-KEPT_LENGTH : goal.returns-then-part-lt-KEPT_LENGTH
returns-then-part-lt-KEPT_LENGTH c = rw (lt-leb kept_length (length c.args.part.now) c.if-part-lt-KEPT_LENGTH.true)

pub returns : goal.returns
unfolding kept_zeros
returns c =
    let part = c.args.part.now in
    let order = take 4 (drop 180 part) in
    let all : c.all.result ≡ each (λ j. eqb (get_or order j 0) 0) (length order) = each_from_row c.all.result (λ x. eqb x 0) order
    (cases_from_all _ _ c.all.result (λ x. eqb x 0 ≡ true) (λ x. eqb x 0 ≡ false) c.all.ensures.ran (YieldsList-from_slice order cc)
    (λ x q k. search rules) (λ x q k. search rules)) in
    let same = each_same (λ j. eqb (get_or order j 0) 0) (λ i. eqb (get_or part (180 + i) 0) 0) 4
    (λ i l. ap (λ x. eqb x 0) (get_or-take 4 (drop 180 part) i 0 l ∙ get_or-drop 180 part i 0)) in
    let four : length order ≡ 4 = length-take-le 4 (drop 180 part) (simp length-drop (omega arith)) in
    rw (le-leb kept_length (length part) c.if-part-lt-KEPT_LENGTH.false) (rw four at all ∙ same)
