-- `record::ListRecord::at` meets its contract. Assumes nothing.
use mathlib.Core.Path.{◌≡◌, ◌∙◌, ap}
use Rattle.record.specs.Bytes.{bytes_from}
use Prim.Native.Nat.{◌*◌}
use native.Mathlib.Omega.{arith}
use Rattle.rules.specs.Records.{list_record_at}
use Rattle.record.specs.View.{list_record_from}
use Rattle.record.proofs.Bytes.{far, list_record_here}
use Rattle.record.proofs.ListRecord.at.Goals as goal

pub returns : goal.returns
unfolding list_record_at
returns c =
    let e : c.bytes_at.result ≡ bytes_from 16 c.args.list.now (c.args.p * 16) =
    rw c.saturating_mul.ensures at c.bytes_at.ensures ∙ far 16 c.args.list.now (c.args.p * 16) (omega arith) in
    rw e at c.from.ensures ∙ list_record_here c.args.list.now (c.args.p * 16) ∙ ap (list_record_from c.args.list.now) (omega arith)
