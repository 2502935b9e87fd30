-- Programs one after the other: "E; S ≡ S; E ≡ S", and the grouping does not matter. Assumes nothing.
use mathlib.Core.Path.{◌≡◌, refl, ap}
use Prim.Native.Nat.{ℕ}
use native.Mathlib.Omega.{arith}
use Rattle.language.specs.Language.{Statement, Program, E, ◌before◌, ◌⨾◌}

pub then_nothing : (S : Program) → S ⨾ E ≡ S
then_nothing E = refl
then_nothing (s before S) = ap (λ (T : Program). s before T) (then_nothing S)

pub grouped : (S T U : Program) → (S ⨾ T) ⨾ U ≡ S ⨾ (T ⨾ U)
grouped E T U = refl
grouped (s before S) T U = ap (λ (W : Program). s before W) (grouped S T U)

-- a program that begins with a statement is not E
pub not_empty : {s : Statement} {S : Program} {X : Type 0} → s before S ≡ E → X
not_empty e = absurd (let z : ◌≡◌ {A = ℕ} 0 1 = cc in omega arith)
