-- `logs::put` meets its contract. Assumes nothing.
use mathlib.Core.Path.{◌≡◌, sym, ◌∙◌}
use Prim.Native.Nat.{◌+◌, ◌-◌, ◌*◌}
use native.Mathlib.Omega.{arith}
use lib.Seq.{drop-drop}
use Rattle.rules.specs.Words.{written}
use Rattle.logs.proofs.put.Goals as goal

pub returns-then-room : goal.returns-then-room
unfolding written
returns-then-room c =
    let at = 2 * (c.args.n + c.args.m) in
    let size : at + 2 - at ≡ 2 = omega arith in
    rw (sym c.room.ensures ∙ c.if-room.true, c.copy_from_slice.ensures.after, c.place-at.ensures, size, drop-drop)
