-- `record::Pick::at` meets its contract. Assumes nothing.
use mathlib.Core.Path.{◌≡◌, ◌∙◌, refl}
use native.Mathlib.Nat.{add-zero}
use Rattle.rules.specs.Words.{values}
use Rattle.record.specs.Bytes.{bytes_from}
use Prim.Native.Nat.{◌*◌}
use native.Mathlib.Omega.{arith}
use Rattle.record.proofs.Bytes.{far}
use Rattle.record.proofs.Pick.at.Goals as goal

pub returns : goal.returns
unfolding values
returns c =
    let bytes = c.args.bytes.now in
    let e : c.bytes_at.result ≡ bytes_from 2 bytes (c.args.i * 2) =
    rw c.saturating_mul.ensures at c.bytes_at.ensures ∙ far 2 bytes (c.args.i * 2) (omega arith) in
    let at : c.args.i * 2 ≡ 2 * c.args.i = omega arith in
    rw (e, at, add-zero) refl
