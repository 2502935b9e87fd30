-- A list record from its bytes: the targets are the library's numbers of two bytes. Assumes nothing.
use mathlib.Core.Path.{◌≡◌}
use native.Mathlib.Omega.{arith}
use Rattle.rules.specs.Records.{record_from, half}
use Rattle.record.proofs.convert.ListRecordFromArrayU816.from.Goals as goal

pub returns : goal.returns
unfolding record_from
returns c =
    let t1 : c.from_le_bytes.result ≡ half c.args.bytes 10 = omega arith in
    let t2 : c.from_le_bytes-2.result ≡ half c.args.bytes 12 = omega arith in
    let spare : c.from_le_bytes-3.result ≡ half c.args.bytes 14 = omega arith in
    cc (c.from.ensures, t1, t2, spare)
