-- A priority below another, as the code tests it and as the rules do. Assumes nothing.
use mathlib.Core.Path.{◌≡◌}
use mathlib.Core.Bool.{Bool, true, not}
use mir.Syntax.{w16}
use mir.Val.{SFits, to_z, of_z}
use mir.ValLaws.{to_z-of_z}
use lib.IntN.{ℤ}
use lib.Signed.{lt_z}
use Rattle.rules.specs.Turn.{yields_to}
use Rattle.fair.proofs.Order.{le_z_not}

-- a ready station yields where its priority, read from 16 bits, is not lower
pub yields_not_lower : {ready : Bool} (p q : ℤ) → SFits w16 q → ready ≡ true → yields_to ready p q ≡ not (lt_z (to_z w16 (of_z w16 q)) p)
yields_not_lower p q fits is_ready = rw (is_ready, to_z-of_z w16 q fits) (le_z_not p q)
