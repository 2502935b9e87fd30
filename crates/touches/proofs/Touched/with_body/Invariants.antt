-- The loop of `touches::Touched::with_body`. Its invariant: what is touched so far, with what the records from here on add, is what the
-- whole body adds; no place is wanted from the end on.
use Rattle.touches.proofs.Walk.{Walk}
use Rattle.touches.proofs.Touched.with_body.Given as goal

abbrev pub invariant-loop-place : goal.invariant-loop-place
invariant-loop-place l = Walk l.list l.initial.touched l.t1 l.touched l.wanted l.end l.place
