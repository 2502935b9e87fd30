-- `narrow::narrowed` meets its contract: a whole record is the list's with a and b narrowed, and past the whole records there are zeros.
-- Assumes nothing.
use mathlib.Core.Path.{◌≡◌, sym, ap, ◌∙◌}
use Prim.Native.Nat.{◌≤◌, ◌<◌}
use borrow.Author.Tests.{ltb-true, ltb-false}
use Rattle.rules.specs.Records.{list_record_at, list_count}
use Rattle.record.specs.View.{as_list_record, list_record_from}
use Rattle.laws.proofs.Narrow.{narrow_at, narrow_past}
use Rattle.narrow.proofs.Chunks.{record_of_chunk}
use Rattle.narrow.proofs.narrowed.Goals as goal

pub returns-in_default : goal.returns-in_default
returns-in_default c =
    let zeros = c.default.ensures in
    let past : list_count c.args.list.now ≤ c.args.p = rw c.as_chunks.ensures.front_len at (ltb-false _ _ (sym c.in_default.ensures.lookup.0)) in
    rw (narrow_past c.args.list.now c.args.p past) cc

pub returns : goal.returns
returns c =
    let list = c.args.list.now in
    let p = c.args.p in
    let within : p < list_count list = rw c.as_chunks.ensures.front_len at (ltb-true _ _ (sym c.in-Some.ensures.lookup.0)) in
    let bytes = rw c.as_chunks.ensures.front at (c.in-Some.ensures.lookup.1) in
    let e : as_list_record c.from-e.result ≡ list_record_at list p =
    c.from-e.ensures ∙ ap (λ b. list_record_from b 0) bytes ∙ record_of_chunk list p _ within in
    rw (narrow_at list p within, ← e)
