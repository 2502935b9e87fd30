-- `turns::first_in_turn` meets its contract. Assumes nothing.
use Prim.Native.Nat.{ℕ}
use mathlib.Core.Path.{◌≡◌, sym, ◌∙◌}
use mathlib.Core.Bool.{Bool, false}
use native.Mathlib.Omega.{arith}
use lib.ListN.{get_or}
use lib.IntN.{ℤ}
use Rattle.rules.specs.State.{priority_in}
use Rattle.laws.proofs.Choice.{both, not_both_left, not_both_right}
use Rattle.turns.proofs.First.{before, sought_kept, sought_taken, sought_all}
use Rattle.turns.proofs.first_in_turn.Goals as goal
use Rattle.turns.proofs.first_in_turn.Goals.{then-entry+then-comes_before, else-entry, else-entry-via-then-entry+else-comes_before, else-entry-via-else-entry}

pub loop-j-preserved : goal.loop-j-preserved
loop-j-preserved c =
    let a = c.args in
    let j = c.loop-j.j in
    let found = c.loop-j.found in
    let is_ready : ℕ → Bool = λ k. get_or a.all.now k false in
    let z : ℕ → ℤ = priority_in a.priorities.now in
    let comes = before is_ready z j found in
    let ready = sym c.entry.ensures in
    elim c.if-entry.branch [
      | then-entry+then-comes_before w ↦
          rw w.found-is (sought_taken is_ready z j found c.loop-j.invariant
          (both {a = is_ready j} {b = comes} (ready ∙ w.if-entry.true) (sym w.comes_before.ensures ∙ w.if-comes_before.true)))
      | else-entry w ↦
          rw w.found-is (sought_kept is_ready z j found c.loop-j.invariant
          (elim w.else-entry.branch [
            | else-entry-via-then-entry+else-comes_before v ↦
                not_both_right (is_ready j) comes (sym v.comes_before.ensures ∙ v.if-comes_before.false)
            | else-entry-via-else-entry v ↦ not_both_left (is_ready j) comes (ready ∙ v.if-entry.false)
          ]))
    ]

pub returns : goal.returns
returns c =
    let a = c.args in
    let e : c.loop-j.j ≡ a.n = omega arith in
    sought_all _ _ a.n c.loop-j.found (rw e at c.loop-j.invariant)
