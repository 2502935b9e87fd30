-- The row of parts, seen as two: a change to one number of a part changes the one row, and leaves the other. Assumes nothing.
use mathlib.Core.Path.{◌≡◌, refl}
use mathlib.Core.List.{List, map}
use Prim.Native.Nat.{ℕ}
use lib.ListN.{get_or, set}
use Rattle.std.proofs.lemmas.List.{map-set}
use Rattle.std.proofs.Math.Seq.{map-set_same}
use Rattle.layout.specs.declared.Part.{Part}

abbrev pub afters : List Part → List ℕ
afters = map (λ (part : Part). part.after)

abbrev pub seconds : List Part → List ℕ
seconds = map (λ (part : Part). part.second)

module _ (parts : List Part) (i n : ℕ) (none : Part) where
  abbrev later : List Part
  later = set parts i (record { after = n; second = (get_or parts i none).second })

  abbrev other : List Part
  other = set parts i (record { after = (get_or parts i none).after; second = n })

  pub after_set : afters later ≡ set (afters parts) i n
  after_set = map-set (λ (part : Part). part.after) parts i _

  pub after_kept : afters other ≡ afters parts
  after_kept = map-set_same (λ (part : Part). part.after) parts i _ none refl

  pub second_set : seconds other ≡ set (seconds parts) i n
  second_set = map-set (λ (part : Part). part.second) parts i _

  pub second_kept : seconds later ≡ seconds parts
  second_kept = map-set_same (λ (part : Part). part.second) parts i _ none refl
