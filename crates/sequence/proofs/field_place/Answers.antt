-- `sequence::field_place` meets its contract. Assumes nothing.
use mathlib.Core.Path.{◌≡◌, ap}
use mathlib.Core.Bool.{Bool, not}
use mathlib.Core.List.{List}
use Prim.Native.Nat.{ℕ}
use borrow.Author.Rules.{rules}
use borrow.Author.Tests.{tests}
use Rattle.std.proofs.lemmas.Iterator.{YieldsList-from_slice}
use Rattle.std.proofs.lemmas.Iterator.Search.{position_from_yields_List}
use Rattle.std.specs.List.{position_or_len}
use Rattle.std.specs.Simd.{first_chunks}
use Rattle.rules.specs.Records.{record_from, record_count}
use Rattle.rules.specs.Fields.{fields_right}
use Rattle.rules.specs.Check.{field_place}
use Rattle.sequence.proofs.Chunks.{record_of_chunk, position_chunks}
use Rattle.sequence.proofs.field_place.Goals as goal

pub returns : goal.returns
unfolding field_place
returns c =
    let file = c.args.file.now in
    let n = record_count file in
    let outside : List ℕ → Bool = λ bytes. not (fields_right (record_from bytes 0)) in
    let at : position_or_len outside (first_chunks 8 n file) ≡ field_place file =
    position_chunks outside file n _ (λ i l. ap (λ r. not (fields_right r)) (record_of_chunk file i)) in
    let answer = position_from_yields_List outside _ _ _ c.position.ensures.ran (YieldsList-from_slice c.as_chunks.result.0.now cc)
    (λ x b q k. search (rules, tests)) in
    rw (c.as_chunks.ensures.front_len, c.as_chunks.ensures.front, at) at answer
