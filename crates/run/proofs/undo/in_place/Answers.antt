-- `run::undo::in_place` meets its contract. Assumes nothing.
use native.Mathlib.Omega.{arith}
use Rattle.recalling.proofs.Known.{recalled_at}
use Rattle.usable.proofs.Known.{usable_at}
use Rattle.run.proofs.Parts.{from_place}
use Rattle.run.proofs.undo.in_place.Goals as goal

pub overflow_sub-at : goal.overflow_sub-at
overflow_sub-at c = omega (arith, c.requires.0)

pub overflow_mul-at : goal.overflow_mul-at
overflow_mul-at c = omega (arith, c.requires.1)

pub returns : goal.returns
returns c =
    let a = c.args in
    rw (from_place a.kept.now a.place, usable_at a.list.now a.kept.now a.b a.place c.requires.1, recalled_at a.kept.now a.place c.requires.1) at c.state.ensures
