-- `recalling::row` meets its contract. The loop's invariant: the numbers passed are read, and the others are the default. Assumes nothing.
use Prim.Native.Nat.{◌+◌, ◌*◌}
use mathlib.Core.Path.{◌≡◌}
use Rattle.laws.proofs.Filled.{filled}
use Rattle.recalling.proofs.row.Given as goal

abbrev pub invariant-loop-i : goal.invariant-loop-i
invariant-loop-i g l =
    (d : _) × (l.row ≡ filled (λ i. g.T.Spelled.spelled l.part (l.at + g.row.N * i)) d g.row.LEN l.i)
