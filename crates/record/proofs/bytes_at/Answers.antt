-- `record::bytes_at` meets its contract. Assumes nothing.
use Prim.Native.Nat.{◌≤◌, min}
use mathlib.Core.Path.{◌≡◌, ◌∙◌, ap}
use native.Mathlib.Omega.{arith}
use lib.ListN.{length, drop}
use Rattle.record.proofs.Bytes.{taken, padded}
use Rattle.record.proofs.bytes_at.Goals as goal

pub returns-in-Some : goal.returns-in-Some
returns-in-Some g c =
    let e = rw (c.split_at.ensures.back, c.min.ensures) at c.in-Some.ensures.cases in
    e.0 ∙ taken c.args.bytes.now c.args.at g.row.N (omega (arith, e.2))

pub returns : goal.returns
returns g c =
    let bytes = c.args.bytes.now in
    let e : c.split_at.result.1.now ≡ drop (min c.args.at (length bytes)) bytes = rw c.min.ensures at c.split_at.ensures.back in
    let h : length (drop (min c.args.at (length bytes)) bytes) ≤ g.row.N = omega (arith, c.in_default.ensures.cases, ap length e) in
    rw (c.copy_from_slice.ensures.after, e) (padded bytes c.args.at g.row.N h)
