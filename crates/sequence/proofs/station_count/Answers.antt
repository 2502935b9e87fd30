-- `sequence::station_count` meets its contract. Assumes nothing.
use mathlib.Core.Path.{ap, ◌∙◌}
use mathlib.Core.Bool.{Bool}
use mathlib.Core.List.{List}
use Prim.Native.Nat.{ℕ}
use lib.Dec.{eqb}
use lib.ListN.{get_or}
use borrow.Author.Rules.{rules}
use borrow.Author.Tests.{tests}
use Rattle.std.proofs.lemmas.Iterator.{YieldsList-from_slice}
use Rattle.std.proofs.lemmas.Iterator.Consumers.{YieldsList-at, YieldsList-from_filter, count_from_yields_List}
use Rattle.rules.specs.Names.{STATION}
use Rattle.rules.specs.Records.{record_from, record_count}
use Rattle.rules.specs.Check.{station_count}
use Rattle.sequence.proofs.Chunks.{kind_of_chunk, count_chunks}
use Rattle.sequence.proofs.station_count.Goals as goal

pub returns : goal.returns
unfolding station_count record_from
returns c =
    let file = c.args.file.now in
    let station : List ℕ → Bool = λ bytes. eqb (get_or bytes 0 0) STATION in
    let counted = count_from_yields_List c.filter.result _ c.count.ensures.ran
    (YieldsList-from_filter _ station (YieldsList-at c.filter.ensures.source (YieldsList-from_slice c.as_chunks.result.0.now cc)) c.filter.ensures.closure
    (λ x b q k. search (rules, tests))) in
    rw c.as_chunks.ensures.front at counted
    ∙ count_chunks station file (record_count file) _ (λ i l. ap (λ kind. eqb kind STATION) (kind_of_chunk file i))
