-- SHAPE's walk, once it is wrong. Assumes nothing.
use mathlib.Core.Path.{◌≡◌, refl}
use mathlib.Core.List.{List, [], ◌∷◌}
use Prim.Native.Nat.{ℕ}
use Rattle.rules.specs.Shape.{stride, wrong, walked}

pub wrong_stays : (kinds : List ℕ) → walked wrong kinds ≡ wrong
unfolding walked stride
wrong_stays [] = refl
wrong_stays (k ∷ kinds) = wrong_stays kinds
