-- The loop of `masks::with_bits`. Its invariant: the masks of the variables passed are in the row. Assumes nothing.
use mathlib.Core.Path.{◌≡◌}
use mathlib.Core.Bool.{false}
use lib.ListN.{get_or}
use Rattle.rules.specs.Names.{variables}
use Rattle.laws.proofs.Filled.{filled}
use Rattle.masks.specs.Masks.{with_bit}
use Rattle.masks.proofs.with_bits.Given as goal

abbrev pub invariant-loop-v : goal.invariant-loop-v
invariant-loop-v l = l.row ≡ filled (λ i. with_bit (get_or l.bits i false) (get_or l.masks i 0)) 0 variables l.v
