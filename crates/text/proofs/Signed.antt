-- A priority, how far it lies from 0, and what is printed of it. Assumes nothing.
use mathlib.Core.Path.{◌≡◌, refl, ap}
use mathlib.Core.Bool.{true, false, true≢false}
use mathlib.Core.List.{List, ◌∷◌}
use Prim.Native.Nat.{ℕ, suc, ◌≤◌}
use native.Mathlib.Omega.{arith}
use borrow.Author.Tests.{ltb-true}
use lib.IntN.{ℤ, pos, negsuc, nat_abs}
use lib.Signed.{lt_z}
use mir.Syntax.{w16}
use mir.Val.{SFits}
use Rattle.std.specs.Fmt.{signed_decimal}
use Rattle.rules.specs.Trace.{decimal, signed}
use Rattle.text.proofs.Digits.{printed as printed_digits}

-- it takes 32768 at most
pub within : (p : ℤ) → SFits w16 p → nat_abs p ≤ 32768
within (pos a) fits = omega (arith, fits.sfits)
within (negsuc a) fits = omega (arith, fits.sfits)

-- one below 0 is a minus sign and how far it lies from it
pub signed_below : (p : ℤ) → lt_z p (pos 0) ≡ true → signed p ≡ 45 ∷ decimal (nat_abs p)
signed_below (pos a) below = absurd (omega (arith, ltb-true a 0 below))
signed_below (negsuc a) below = refl

-- one that is not below 0 is itself
pub not_below : (p : ℤ) → lt_z p (pos 0) ≡ false → p ≡ pos (nat_abs p)
not_below (pos a) left = refl
not_below (negsuc a) left = absurd (true≢false left)

-- what `{}` prints of it
pub printed : (p : ℤ) → SFits w16 p → signed_decimal p ≡ signed p
printed (pos a) fits = printed_digits a (omega (arith, fits.sfits))
printed (negsuc a) fits = ap (λ (digits : List ℕ). 45 ∷ digits) (printed_digits (suc a) (omega (arith, fits.sfits)))
