-- `shape::read_part` meets its contract, which its call of itself on a shorter slice may use. The loop's invariant: what the
-- slice's records find is found from the place on, in the part as it stands there. Assumes nothing.
use mathlib.Core.Path.{refl, sym}
use native.Mathlib.Omega.{arith}
use Rattle.deep.specs.declared.Read.TheVariants.{Closed, Wrong}
use Rattle.deep.proofs.Turn.{within_part, turn_end, turn_on, turn_out, turn_off, turn_closed, turn_wrong, turn_short}
use Rattle.shape.proofs.+read_part.Goals as goal

pub loop-at-preserved-in-On : goal.loop-at-preserved-in-On
loop-at-preserved-in-On t c =
    (omega arith, turn_on _ _ _ _ _ c.loop-at-test.true c.loop-at.invariant.1 _ c.stride.ensures _ c.in-On.is)

-- the nested part's answer is within what is left of the slice
pub overflow_add-at : goal.overflow_add-at
overflow_add-at t c =
    let h = within_part c.args.s.now c.loop-at.at _ _ c.loop-at-test.true c.read_part.ensures (Closed c.in-Closed.place) c.in-Closed.is in
    omega arith

pub overflow_add-at-in-Closed : goal.overflow_add-at-in-Closed
overflow_add-at-in-Closed t c =
    let h = within_part c.args.s.now c.loop-at.at _ _ c.loop-at-test.true c.read_part.ensures (Closed c.in-Closed.place) c.in-Closed.is in
    omega arith

pub loop-at-preserved : goal.loop-at-preserved
loop-at-preserved t c =
    let h = within_part c.args.s.now c.loop-at.at _ _ c.loop-at-test.true c.read_part.ensures (Closed c.in-Closed.place) c.in-Closed.is in (
      omega arith,
      rw c.grown-part.ensures
          (turn_closed _ _ _ _ c.loop-at-test.true c.loop-at.invariant.1 _ c.stride.ensures
          _ c.in-Into.is _ c.read_part.ensures _ c.in-Closed.is),
    )

pub overflow_add-result : goal.overflow_add-result
overflow_add-result t c =
    let h = within_part c.args.s.now c.loop-at.at _ _ c.loop-at-test.true c.read_part.ensures (Wrong c.in-Wrong.place) c.in-Wrong.is in
    omega arith

pub returns-in-Wrong : goal.returns-in-Wrong
returns-in-Wrong t c =
    sym (turn_wrong _ _ _ _ c.loop-at-test.true c.loop-at.invariant.1 _ c.stride.ensures
    _ c.in-Into.is _ c.read_part.ensures _ c.in-Wrong.is)

pub returns-in-Short : goal.returns-in-Short
returns-in-Short t c =
    sym (turn_short _ _ _ _ c.loop-at-test.true c.loop-at.invariant.1 _ c.stride.ensures
    _ c.in-Into.is _ c.read_part.ensures _ c.in-Short.is)

pub returns-in-Out : goal.returns-in-Out
returns-in-Out t c =
    sym (turn_out _ _ _ _ _ c.loop-at-test.true c.loop-at.invariant.1 _ c.stride.ensures c.in-Out.is refl)

pub returns-in-Off : goal.returns-in-Off
returns-in-Off t c =
    sym (turn_off _ _ _ _ _ c.loop-at-test.true c.loop-at.invariant.1 _ c.stride.ensures c.in-Off.is)

pub returns : goal.returns
returns t c = sym (turn_end _ _ _ _ _ c.loop-at.invariant.1 c.loop-at-test.false)
