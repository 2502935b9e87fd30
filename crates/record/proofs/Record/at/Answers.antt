-- `record::Record::at` meets its contract. Assumes nothing.
use mathlib.Core.Path.{◌≡◌, ◌∙◌, ap}
use Rattle.record.specs.Bytes.{bytes_from}
use Prim.Native.Nat.{◌*◌}
use native.Mathlib.Omega.{arith}
use Rattle.rules.specs.Records.{record_from}
use Rattle.record.proofs.Bytes.{far, record_here}
use Rattle.record.proofs.Record.at.Goals as goal

pub returns : goal.returns
returns c =
    let e : c.bytes_at.result ≡ bytes_from 8 c.args.file.now (c.args.i * 8) =
    rw c.saturating_mul.ensures at c.bytes_at.ensures ∙ far 8 c.args.file.now (c.args.i * 8) (omega arith) in
    rw e at c.from.ensures ∙ record_here c.args.file.now (c.args.i * 8) ∙ ap (record_from c.args.file.now) (omega arith)
