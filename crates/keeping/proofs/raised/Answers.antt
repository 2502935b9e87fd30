-- `keeping::raised` meets its contract: the sum is taken at 32 bits, where it is never negative, and fits 16. Assumes nothing.
use Prim.Native.Nat.{suc, ◌<◌}
use mathlib.Core.Path.{◌≡◌, ap}
use native.Mathlib.Omega.{arith}
use mir.Syntax.{w16, w32}
use mir.Val.{SFits, to_z, of_z}
use mir.ValLaws.{to_z_pos, to_z-of_z}
use lib.IntN.{ℤ, pos, negsuc, ◌+ℤ◌}
use borrow.Author.Tests.{le-ltb}
use Rattle.rules.specs.Kept.{raised}
use Rattle.keeping.proofs.raised.Goals as goal

wider : (z : ℤ) → SFits w16 z → SFits w32 z
wider z fits = record { sfits = omega arith }

sum : (z : ℤ) → SFits w16 z → z +ℤ pos 32768 ≡ pos (raised z)
sum (pos x) fits = ap pos (omega arith)
sum (negsuc x) fits = rw (le-ltb 32768 (suc x) (omega arith)) (ap pos (omega arith))

raised_below : (z : ℤ) → SFits w16 z → raised z < 65536
raised_below (pos x) fits = omega arith
raised_below (negsuc x) fits = omega arith

-- as the machine takes it
taken : (z : ℤ) → SFits w16 z → to_z w32 (of_z w32 (to_z w16 (of_z w16 z))) +ℤ pos 32768 ≡ pos (raised z)
taken z fits = rw (to_z-of_z w16 z fits, to_z-of_z w32 z (wider z fits)) (sum z fits)

pub overflow_cast-result : goal.overflow_cast-result
overflow_cast-result c = rw (to_z-of_z w16 c.args.priority c.ranges.priority) (wider _ c.ranges.priority)

pub overflow_add-result : goal.overflow_add-result
overflow_add-result c = rw (taken c.args.priority c.ranges.priority) (record { sfits = omega (arith, raised_below c.args.priority c.ranges.priority) })

pub overflow_cast-result-2 : goal.overflow_cast-result-2
overflow_cast-result-2 c =
    let below = raised_below c.args.priority c.ranges.priority in
    rw (taken c.args.priority c.ranges.priority, to_z_pos w32 (raised c.args.priority) (omega arith)) (tt, omega arith)

pub returns : goal.returns
returns c =
    let below = raised_below c.args.priority c.ranges.priority in
    rw (taken c.args.priority c.ranges.priority, to_z_pos w32 (raised c.args.priority) (omega arith))
