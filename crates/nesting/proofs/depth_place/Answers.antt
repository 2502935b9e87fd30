-- `nesting::depth_place` meets its contract. The loop's invariant: no more is open than may be, and the place is found from
-- here on. Assumes nothing.
use mathlib.Core.Path.{◌≡◌, sym, ◌∙◌}
use mathlib.Core.Bool.{false, ◌&&◌}
use Prim.Native.Nat.{◌*◌}
use native.Mathlib.Omega.{arith}
use lib.Dec.{leb}
use lib.ListN.{get_or}
use mathlib.Core.Logic.{⊎_elim}
use borrow.Author.Tests.{lt-leb, lt-ltb, le-ltb}
use borrow.Author.Rules.{rules}
use Rattle.rules.specs.Names.{max_depth}
use Rattle.rules.specs.Shape.{opens}
use Rattle.laws.proofs.Choice.{both, not_both_left, not_both_right}
use Rattle.nesting.proofs.Open.{deep_start, deep_end, deep_here, deep_on, deep_within}
use Rattle.nesting.proofs.depth_place.Goals as goal
use Rattle.nesting.proofs.depth_place.Goals.{Joined-else-opens}

pub loop-at-init : goal.loop-at-init
loop-at-init c = record { within = omega arith; found = deep_start _ }

pub returns-then-depth-ge-MAX_DEPTH : goal.returns-then-depth-ge-MAX_DEPTH
returns-then-depth-ge-MAX_DEPTH c =
    let deep = both (sym c.opens.ensures ∙ c.if-opens.true) (search rules) in
    rw (deep_here _ _ _ c.loop-at-test.true c.loop-at.invariant.found deep, lt-ltb _ _ c.loop-at-test.true)

-- where the test does not refuse
passed : (c : Joined-else-opens)
    → (opens (get_or c.args.file.now (8 * c.loop-at.at) 0) && leb max_depth c.loop-at.depth) ≡ false
passed c =
    let k = get_or c.args.file.now (8 * c.loop-at.at) 0 in
    ⊎_elim
    (λ w. not_both_right (opens k) _ (lt-leb max_depth c.loop-at.depth w.1))
    (λ closed. not_both_left (opens k) _ (sym c.opens.ensures ∙ closed))
    c.else-opens.either

pub loop-at-preserved : goal.loop-at-preserved
loop-at-preserved c =
    let l = c.loop-at in
    let goes_on = passed (goal.at.loop-at-preserved c).Joined-else-opens in
    rw c.depth_after-depth.ensures record {
      within = deep_within _ _ _ c.loop-at-test.true l.invariant.found l.invariant.within goes_on;
      found = deep_on _ _ _ c.loop-at-test.true l.invariant.found goes_on;
    }

pub returns : goal.returns
returns c =
    rw (deep_end _ _ _ c.loop-at.invariant.found c.loop-at-test.false, le-ltb _ _ c.loop-at-test.false)
