-- `stations::judge` meets its contract. Assumes nothing.
use Prim.Native.Nat.{◌+◌, min}
use mathlib.Core.Path.{◌≡◌, refl, sym, ap, ◌∙◌}
use mathlib.Core.Bool.{false, not}
use native.Mathlib.Omega.{arith}
use mir.Syntax.{w16}
use mir.Val.{to_z, of_z}
use mir.ValLaws.{to_z-of_z}
use borrow.Author.Rules.{rules}
use Rattle.rules.specs.Words.{each, changed}
use Rattle.rules.specs.Names.{max_stations}
use Rattle.rules.specs.State.{priority_in}
use Rattle.laws.proofs.Changed.{changed_turn}
use Rattle.laws.proofs.Places.{each_not, each_more}
use Rattle.stations.proofs.Lower.{yields_not_lower}
use Rattle.stations.proofs.judge.Goals as goal
use Rattle.stations.proofs.judge.Goals.{then-ready+then-state-j, else-ready, else-ready-via-then-ready+else-state-j, else-ready-via-else-ready}

pub loop-j-init : goal.loop-j-init
unfolding changed each
loop-j-init c = record { filled = refl; known = refl }

pub loop-j-preserved : goal.loop-j-preserved
loop-j-preserved c =
    let a = c.args in
    let own = to_z w16 (of_z w16 a.own) in
    let other = priority_in a.state.now.priorities c.loop-j.j in
    let ready = sym c.ready_from-ready.ensures in
    record {
      filled = changed_turn _ _ _ _ _ false c.loop-j.invariant.filled c.ready_from-ready.ensures;
      known = elim c.if-ready.branch [
        | then-ready+then-state-j w ↦
            w.lowest-is ∙ sym (each_not _ (c.loop-j.j + 1) c.loop-j.j (omega arith)
            (yields_not_lower own other (search rules) (ready ∙ w.if-ready.true) ∙ ap not w.if-state-j.true))
        | else-ready w ↦
            w.lowest-is ∙ c.loop-j.invariant.known ∙ sym (each_more _ c.loop-j.j
            (elim w.else-ready.branch [
              | else-ready-via-then-ready+else-state-j v ↦
                  yields_not_lower own other (search rules) (ready ∙ v.if-ready.true) ∙ ap not v.if-state-j.false
              | else-ready-via-else-ready v ↦ rw (ready ∙ v.if-ready.false)
            ]))
      ];
    }

pub returns : goal.returns
returns c =
    let a = c.args in
    let e : c.loop-j.j ≡ min a.state.now.n max_stations = omega arith in
    (rw e at c.loop-j.invariant.filled, rw (e, to_z-of_z w16 _ c.ranges.own) at c.loop-j.invariant.known)
