-- `touches::Touched::with_body` meets its contract, by the loop's invariant and by what each turn does to it. Assumes nothing.
use native.Mathlib.Omega.{arith}
use Rattle.touches.proofs.Walk.{begins, ends, passes, takes}
use Rattle.touches.proofs.Touched.with_body.Goals as goal
use Rattle.touches.proofs.Touched.with_body.Goals.{then-wanted-place, else-wanted-place}

pub loop-place-init : goal.loop-place-init
loop-place-init c = begins c.args.list.now c.args.self c.args.t1 c.searched.ensures c.want-end.ensures

pub loop-place-preserved : goal.loop-place-preserved
loop-place-preserved c =
    elim c.if-wanted-place.branch [
      | then-wanted-place w ↦
          rw (w.touched-is, w.wanted-is, w.end-is)
          (takes _ _ _ c.loop-place.invariant c.if-end-place.false w.if-wanted-place.true w.at-e.ensures
          w.with_record-touched.ensures w.want-end-then-wanted-place.ensures w.want-end-then-wanted-place-2.ensures)
      | else-wanted-place w ↦
          rw (w.touched-is, w.wanted-is, w.end-is) (passes _ _ _ c.loop-place.invariant c.if-end-place.false w.if-wanted-place.false)
    ]

pub returns-after-loop-place : goal.returns-after-loop-place
returns-after-loop-place c = ends _ _ _ c.loop-place.invariant (omega (arith, c.loop-place.invariant.within, c.loop-place.invariant.long))

pub returns-then-end-place : goal.returns-then-end-place
returns-then-end-place c = ends _ _ _ c.loop-place.invariant c.if-end-place.true
