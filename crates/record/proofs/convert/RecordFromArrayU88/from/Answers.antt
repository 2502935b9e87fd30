-- A record from its bytes: k is the library's number of four bytes. Assumes nothing.
use mathlib.Core.Path.{ap}
use lib.ListN.{get_or}
use native.Mathlib.Omega.{arith}
use Rattle.rules.specs.Records.{record_from}
use Rattle.record.proofs.convert.RecordFromArrayU88.from.Goals as goal

pub returns : goal.returns
unfolding record_from
returns c = rw c.from_le_bytes.ensures (ap (λ k. record { kind = get_or c.args.bytes 0 0; a = get_or c.args.bytes 1 0; b = get_or c.args.bytes 2 0; op = get_or c.args.bytes 3 0; k = k }) (omega arith))
