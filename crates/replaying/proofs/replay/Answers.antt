-- `replaying::replay` meets its contract. Assumes nothing.
use mathlib.Core.Path.{◌≡◌, refl, sym, ap, ◌∙◌}
use Prim.Native.Nat.{◌+◌, ◌-◌}
use native.Mathlib.Omega.{arith}
use borrow.Author.Rules.{rules}
use Rattle.state.specs.View.{as_state}
use Rattle.laws.specs.Narrow.{narrow}
use Rattle.picking.specs.Took.{picked}
use Rattle.picking.proofs.Refused.{not_none}
use Rattle.replaying.specs.Replayed.{took_from}
use Rattle.replaying.proofs.Records.{from_taken, from_refused}
use Rattle.replaying.proofs.replay.Goals as goal

pub returns-in-Err : goal.returns-in-Err
returns-in-Err c =
    let a = c.args in
    let at = c.loop-i in
    from_refused a.list.now a.log.now at.i (as_state at.state) (c.in-Err.ensures ∙ ap (picked (narrow a.list.now) (as_state at.state)) (search rules))
    {count = a.first + a.count - (at.i + 1)} (omega arith) (not_none c.in-Err.refusal) ∙ sym at.invariant

pub loop-i-preserved : goal.loop-i-preserved
loop-i-preserved c =
    let a = c.args in
    let at = c.loop-i in
    at.invariant ∙ sym (from_taken a.list.now a.log.now at.i (as_state at.state)
    (c.in_default.ensures ∙ ap (picked (narrow a.list.now) (as_state at.state)) (search rules)) (omega arith) (omega arith) refl)

pub returns : goal.returns
unfolding took_from
returns c =
    let a = c.args in
    let none : a.first + a.count - c.loop-i.i ≡ 0 = omega arith in
    sym (c.loop-i.invariant ∙ rw none)
