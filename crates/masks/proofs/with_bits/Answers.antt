-- `masks::with_bits` meets its contract. Assumes nothing.
use mathlib.Core.Path.{◌≡◌, ◌∙◌}
use native.Mathlib.Omega.{arith}
use Rattle.rules.specs.Names.{variables}
use Rattle.laws.proofs.Filled.{filled_none, filled_more, filled_all}
use Rattle.masks.proofs.with_bits.Goals as goal

pub loop-v-init : goal.loop-v-init
loop-v-init c = filled_none _ 0 variables

pub loop-v-preserved : goal.loop-v-preserved
loop-v-preserved c = rw (c.loop-v.invariant, c.with_bit.ensures) (filled_more _ 0 variables _ c.loop-v-test.true)

pub returns : goal.returns
returns c =
    let all : c.loop-v.v ≡ variables = omega arith in
    rw all at c.loop-v.invariant ∙ filled_all _ 0 variables
