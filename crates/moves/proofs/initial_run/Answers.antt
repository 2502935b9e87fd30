-- `moves::initial_run` meets its contract. Assumes nothing.
use mathlib.Core.Path.{◌≡◌, ◌∙◌}
use Prim.Native.Nat.{◌+◌, ◌-◌}
use native.Mathlib.Omega.{arith}
use Rattle.rules.specs.Start.{initial_run}
use Rattle.record.specs.View.{as_record}
use Rattle.values.proofs.Looks.{assigned_looks}
use Rattle.moves.proofs.Turns.{initial_turn, initial_past}
use Rattle.moves.proofs.initial_run.Goals as goal

pub returns-then-place-list : goal.returns-then-place-list
returns-then-place-list c =
    let a = c.args in
    let loop = c.loop-i in
    initial_past _ (a.count - (loop.i + 1)) (a.from + loop.i) loop.vars c.if-place-list.true (omega arith)
    c.at.ensures (c.assign.ensures ∙ assigned_looks loop.vars (as_record c.at.result.own))
    ∙ loop.invariant.1

pub loop-i-preserved : goal.loop-i-preserved
loop-i-preserved c =
    let a = c.args in
    let loop = c.loop-i in (
      omega arith,
      initial_turn _ (a.count - (loop.i + 1)) (a.from + loop.i) loop.vars (omega arith) (omega arith)
          c.at.ensures (c.assign.ensures ∙ assigned_looks loop.vars (as_record c.at.result.own))
          ∙ loop.invariant.1,
    )

pub returns : goal.returns
unfolding initial_run
returns c =
    let none : c.args.count - c.loop-i.i ≡ 0 = omega arith in
    rw none at c.loop-i.invariant.1
