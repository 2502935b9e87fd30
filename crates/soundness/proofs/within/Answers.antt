-- `soundness::within` meets its contract: the sum is taken at 32 bits, which hold it. Assumes nothing.
use Prim.Native.Nat.{ℕ, suc, ◌<◌}
use mathlib.Core.Path.{◌≡◌}
use native.Mathlib.Omega.{arith}
use mir.Syntax.{w16, w32}
use mir.Val.{SFits, to_z, of_z}
use mir.ValLaws.{to_z-of_z, to_z_pos}
use lib.Dec.{ltb}
use lib.IntN.{ℤ, pos, negsuc, ◌+ℤ◌}
use borrow.Author.Tests.{ltb-true, ltb-false}
use Rattle.laws.proofs.Choice.{by_test}
use Rattle.soundness.proofs.within.Goals as goal

wider : (z : ℤ) → SFits w16 z → SFits w32 z
wider z fits = record { sfits = omega arith }

sum_fits : (z : ℤ) (c : ℕ) → SFits w16 z → c < 65536 → SFits w32 (z +ℤ pos c)
sum_fits (pos a) c fits small = record { sfits = omega arith }
sum_fits (negsuc a) c fits small =
    by_test (ltb c (suc a))
    (λ e. rw e (record { sfits = omega (arith, ltb-true c (suc a) e) }))
    (λ e. rw e (record { sfits = omega (arith, ltb-false c (suc a) e) }))

-- as the machine takes it
taken : (z : ℤ) (c : ℕ) → SFits w16 z → c < 65536 → to_z w32 (of_z w32 (to_z w16 (of_z w16 z))) +ℤ to_z w32 c ≡ z +ℤ pos c
taken z c fits small = rw (to_z-of_z w16 z fits, to_z-of_z w32 z (wider z fits), to_z_pos w32 c (omega arith))

pub overflow_cast-result : goal.overflow_cast-result
overflow_cast-result c = rw (to_z-of_z w16 c.args.priority c.ranges.priority) (wider _ c.ranges.priority)

pub overflow_add-result : goal.overflow_add-result
overflow_add-result c =
    let a = c.args in
    rw (taken a.priority a.count c.ranges.priority (omega arith)) (sum_fits a.priority a.count c.ranges.priority (omega arith))

pub returns : goal.returns
returns c =
    let a = c.args in
    rw (
      taken a.priority a.count c.ranges.priority (omega arith),
      to_z-of_z w32 (a.priority +ℤ pos a.count) (sum_fits a.priority a.count c.ranges.priority (omega arith)),
      to_z_pos w32 a.b (omega arith),
    )
