-- `soundness::low_count` meets its contract. The loop's invariant: those passed are counted. Assumes nothing.
use Prim.Native.Nat.{ℕ}
use mathlib.Core.Path.{◌≡◌, refl, ◌∙◌}
use mathlib.Core.Bool.{Bool}
use native.Mathlib.Numerals.{add-one}
use native.Mathlib.Omega.{arith}
use lib.IntN.{pos, neg_ℤ}
use lib.Signed.{le_z}
use Rattle.rules.specs.Words.{tally}
use Rattle.laws.proofs.Places.{tally_suc, tally_within}
use Rattle.rules.specs.State.{priority_in}
use Rattle.soundness.proofs.low_count.Goals as goal
use Rattle.soundness.proofs.low_count.Goals.{then-low, else-low}

pub loop-j-init : goal.loop-j-init
unfolding tally
loop-j-init c = refl

pub overflow_add-count : goal.overflow_add-count
overflow_add-count c =
    let a = c.args in
    omega (arith, tally_within (λ i. le_z (priority_in a.state.now.priorities i) (neg_ℤ (pos a.k))) c.loop-j.j)

pub loop-j-preserved : goal.loop-j-preserved
loop-j-preserved c =
    let a = c.args in
    let low : ℕ → Bool = λ i. le_z (priority_in a.state.now.priorities i) (neg_ℤ (pos a.k)) in
    let j = c.loop-j.j in
    let counted = c.loop-j.invariant in
    rw (add-one, tally_suc low j, ← c.low.ensures) (elim c.if-low.branch [
      | then-low w ↦ rw w.if-low.true (w.count-is ∙ rw (counted, add-one))
      | else-low w ↦ rw w.if-low.false (w.count-is ∙ counted)
    ])

pub returns : goal.returns
returns c =
    let e : c.loop-j.j ≡ c.args.state.now.n = omega arith in
    rw e at c.loop-j.invariant
