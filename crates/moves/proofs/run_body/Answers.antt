-- `moves::run_body` meets its contract. Assumes nothing.
use mathlib.Core.Path.{◌≡◌, sym, ◌∙◌}
use Prim.Native.Nat.{◌+◌, ◌-◌}
use native.Mathlib.Omega.{arith}
use Rattle.rules.specs.Records.{list_count}
use Rattle.rules.specs.Move.{body_run}
use Rattle.laws.proofs.Bodies.{body_leaves}
use Rattle.moves.proofs.Turns.{body_turn}
use Rattle.moves.proofs.run_body.Goals as goal

pub returns-then-place-eq0 : goal.returns-then-place-eq0
returns-then-place-eq0 c = sym (body_leaves _ _ _) ∙ rw c.if-place-eq0.true at c.loop.invariant

pub loop-preserved : goal.loop-preserved
loop-preserved c =
    let loop = c.loop in
    body_turn _ (list_count c.args.list.now - (loop.counter + 1)) loop.place loop.vars (omega arith) c.if-place-eq0.false c.narrowed-e.ensures
    c.target_after-place.ensures c.change.ensures
    ∙ loop.invariant

pub returns : goal.returns
unfolding body_run
returns c =
    let none : list_count c.args.list.now - c.loop.counter ≡ 0 = omega arith in
    rw none at c.loop.invariant
