-- `keeping::put_row` meets its contract. The loop's invariant: the numbers passed are put in. Assumes nothing.
use mathlib.Core.Path.{refl, sym}
use Prim.Native.Nat.{◌+◌, ◌*◌}
use native.Mathlib.Omega.{arith}
use lib.Seq.{take_all}
use Rattle.rules.specs.Words.{joined}
use Rattle.laws.proofs.Written.{written_none}
use Rattle.keeping.proofs.Put.{joined_turn, written_part}
use Rattle.keeping.proofs.put_row.Goals as goal

pub loop-j-init : goal.loop-j-init
unfolding joined
loop-j-init g c = sym (written_none _ _)

pub loop-j-preserved : goal.loop-j-preserved
loop-j-preserved g c =
    let a = c.args in
    let spelled = g.T.Spelled.spelled in
    let x = c.index-row-j.result in
    let offset = a.at + g.row.N * c.loop-j.j in
    let put = written_part c.loop-j.place (spelled x) offset g.row.N (g.met.T.Spelled.sized x) in
    joined_turn spelled g.row.N g.met.T.Spelled.sized _ _ _ a.at offset a.row.now c.loop-j.j x c.loop-j-test.true c.requires refl c.loop-j.invariant
    (rw (c.copy_from_slice.ensures.after, c.bytes.ensures, ← c.index-row-j.is) put)

pub returns : goal.returns
returns g c = rw (take_all c.loop-j.j c.args.row.now (omega arith)) at c.loop-j.invariant
