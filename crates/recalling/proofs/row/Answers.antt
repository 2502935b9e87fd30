-- `recalling::row` meets its contract, a turn and the end of its loop by `Filling`. Assumes nothing.
use Prim.Native.Nat.{◌-◌}
use mathlib.Core.Path.{◌≡◌, ◌∙◌, ap}
use lib.ListN.{replicate}
use native.Mathlib.Omega.{arith}
use Rattle.laws.proofs.Filled.{filled_none}
use Rattle.recalling.proofs.Filling.{filled_turn, filled_end}
use Rattle.recalling.proofs.row.Goals as goal

pub loop-i-init : goal.loop-i-init
loop-i-init g c =
    let d = c.default-row.result in
    let whole : g.row.LEN ≡ g.row.LEN - 0 = omega arith in
    (d, ap (λ n. replicate n d) whole ∙ filled_none _ d g.row.LEN)

pub loop-i-preserved : goal.loop-i-preserved
loop-i-preserved g c =
    let inv = c.loop-i.invariant in
    (inv.0, filled_turn _ inv.0 g.row.LEN c.loop-i.row c.loop-i.i c.read.result (omega arith) inv.1 c.read.ensures)

pub returns : goal.returns
returns g c =
    let inv = c.loop-i.invariant in
    filled_end _ inv.0 g.row.LEN c.loop-i.row c.loop-i.i (omega arith) (omega arith) inv.1
