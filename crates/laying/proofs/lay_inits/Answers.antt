-- `laying::lay_inits` meets its contract: what is still to be laid into the list, from j stations down, is what was to be laid at
-- first.
-- Assumes nothing.
use mathlib.Core.Path.{◌≡◌}
use native.Mathlib.Omega.{arith}
use Rattle.laying.specs.Laid.{lay_inits}
use Rattle.laying.proofs.Passes.{init_before}
use Rattle.laying.proofs.lay_inits.Goals as goal

pub loop-j-preserved : goal.loop-j-preserved
loop-j-preserved c =
    rw (c.put.ensures, c.init.ensures, c.saturating_sub-p.ensures, ← init_before c.loop-j.j _ _ _ (omega arith)) c.loop-j.invariant

pub returns : goal.returns
unfolding lay_inits
returns c =
    let none : c.loop-j.j ≡ 0 = omega arith in
    rw none at c.loop-j.invariant
