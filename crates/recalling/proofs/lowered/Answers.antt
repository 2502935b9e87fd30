-- `recalling::lowered` meets its contract: the difference is taken at 32 bits, and fits 16. Assumes nothing.
use Prim.Native.Nat.{ℕ, ◌<◌}
use mathlib.Core.Path.{◌≡◌}
use native.Mathlib.Omega.{arith}
use mir.Syntax.{w16, w32}
use mir.Val.{SFits, to_z}
use mir.ValLaws.{to_z_pos, to_z-of_z}
use lib.Dec.{ltb}
use lib.IntN.{pos, ◌-ℤ◌}
use borrow.Author.Tests.{ltb-true, ltb-false}
use Rattle.rules.specs.Kept.{lowered}
use Rattle.laws.proofs.Choice.{by_test}
use Rattle.recalling.proofs.lowered.Goals as goal

lowered_fits : (x : ℕ) → x < 65536 → SFits w16 (lowered x)
lowered_fits x below =
    by_test (ltb x 32768)
    (λ e. rw e (record { sfits = omega (arith, ltb-true x 32768 e) }))
    (λ e. rw e (record { sfits = omega (arith, ltb-false x 32768 e) }))

-- as the machine takes it
taken : (x : ℕ) → x < 65536 → to_z w32 x -ℤ pos 32768 ≡ lowered x
taken x below = rw (to_z_pos w32 x (omega arith))

wider : (x : ℕ) → x < 65536 → SFits w32 (lowered x)
wider x below = let fits = lowered_fits x below in record { sfits = omega arith }

pub overflow_sub-result : goal.overflow_sub-result
overflow_sub-result c = rw (taken c.args.x c.ranges.x.fits) (wider c.args.x c.ranges.x.fits)

pub overflow_cast-result-2 : goal.overflow_cast-result-2
overflow_cast-result-2 c =
    let x = c.args.x in
    let below = c.ranges.x.fits in
    rw (taken x below, to_z-of_z w32 (lowered x) (wider x below)) (lowered_fits x below)

pub returns : goal.returns
returns c =
    let x = c.args.x in
    let below = c.ranges.x.fits in
    rw (taken x below, to_z-of_z w32 (lowered x) (wider x below), to_z-of_z w16 (lowered x) (lowered_fits x below))
