-- `soundness::few_low` meets its contract. The loop's invariant: each k passed has few enough. Assumes nothing.
use Prim.Native.Nat.{◌+◌}
use mathlib.Core.Path.{sym, ◌∙◌}
use native.Mathlib.Omega.{arith}
use lib.IntN.{pos, neg_ℤ}
use lib.Signed.{le_z}
use borrow.Author.Count.{below_none, below_more}
use borrow.Author.Tests.{le-leb, lt-leb}
use Rattle.laws.proofs.Places.{each_all, each_not, tally_within}
use Rattle.rules.specs.State.{priority_in}
use Rattle.soundness.proofs.Clauses.{few_low_counted}
use Rattle.soundness.proofs.few_low.Goals as goal

pub loop-i-init : goal.loop-i-init
loop-i-init c = below_none _

pub overflow_add-low_count : goal.overflow_add-low_count
overflow_add-low_count c =
    let s = c.args.state.now in
    omega (arith, c.low_count.ensures, tally_within (λ j. le_z (priority_in s.priorities j) (neg_ℤ (pos (c.loop-i.i + 1)))) s.n)

pub returns-then-n-low_count : goal.returns-then-n-low_count
returns-then-n-low_count c =
    let s = c.args.state.now in
    sym (each_not _ s.n c.loop-i.i c.loop-i-test.true
    (few_low_counted s.priorities s.n _ c.low_count.ensures ∙ lt-leb _ _ c.if-n-low_count.true))

pub loop-i-preserved : goal.loop-i-preserved
loop-i-preserved c =
    let s = c.args.state.now in
    below_more _ _ c.loop-i.invariant (few_low_counted s.priorities s.n _ c.low_count.ensures ∙ le-leb _ _ c.if-n-low_count.false)

pub returns : goal.returns
returns c = sym (each_all _ c.args.state.now.n (λ k l. c.loop-i.invariant k (omega arith)))
