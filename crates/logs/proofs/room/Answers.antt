-- `logs::room` meets its contract. Assumes nothing.
use Prim.Native.Nat.{◌+◌, ◌*◌}
use mathlib.Core.Path.{◌≡◌}
use native.Mathlib.Omega.{arith}
use Rattle.logs.proofs.room.Goals as goal

pub returns : goal.returns
returns c =
    let a = c.args in
    let end : 2 * (a.n + a.m) + 2 ≡ 2 * (a.n + a.m + 1) = omega arith in
    rw (c.place.ensures, end)
