-- A state that is written to a kept place leaves what the others hold. Assumes nothing.
use mathlib.Core.Path.{◌≡◌, refl, ap, ◌∙◌}
use mathlib.Core.Logic.{◌≢◌}
use mathlib.Core.List.{List}
use Prim.Native.Nat.{ℕ, ◌+◌, ◌*◌, ◌≤◌, ◌<◌}
use native.Mathlib.Omega.{arith}
use borrow.Author.Tests.{ltb-true, ltb-false}
use lib.Dec.{eqb, ltb}
use lib.ListN.{length, get_or}
use Rattle.rules.specs.Words.{values, written}
use Rattle.rules.specs.Names.{variables, max_stations, kept_length}
use Rattle.rules.specs.Records.{half, word}
use Rattle.rules.specs.State.{State}
use Rattle.rules.specs.Kept.{kept_offset, lowered, encoded, kept_state, kept_zeros}
use Rattle.laws.proofs.Choice.{by_test}
use Rattle.laws.proofs.Places.{each_same, values_same}
use Rattle.fair.specs.Sound.{Held}
use Rattle.kept.specs.Keeps.{HasPlace, KeptElsewhere}
use Rattle.kept.proofs.Bytes.{get_or_before, get_or_behind}
use Rattle.kept.proofs.Back.{length_encoded}

-- two buffers with the same bytes in a kept place have the same state there
module _ (kept other : List ℕ) (j : ℕ)
    (same : (i at : ℕ) → i < kept_length → at ≡ kept_offset j + i → get_or other at 0 ≡ get_or kept at 0) where
  same_half : (i at : ℕ) → i + 1 < kept_length → at ≡ kept_offset j + i → half other at ≡ half kept at
  same_half i at l e =
      let a = same i at (omega arith) e in
      let b = same (i + 1) (at + 1) l (omega arith) in
      rw (a, b)

  same_word : (i at : ℕ) → i + 3 < kept_length → at ≡ kept_offset j + i → word other at ≡ word kept at
  same_word i at l e =
      let a = same i at (omega arith) e in
      let b = same (i + 1) (at + 1) (omega arith) (omega arith) in
      let c = same (i + 2) (at + 2) (omega arith) (omega arith) in
      let d = same (i + 3) (at + 3) l (omega arith) in
      rw (a, b, c, d)

  same_state : kept_state other j ≡ kept_state kept j
  unfolding kept_state
  same_state =
      let at = kept_offset j in
      let vars = values_same (λ v. word other (at + 4 * v)) (λ v. word kept (at + 4 * v)) variables (λ v l. same_word (4 * v) _ (omega arith) refl) in
      let row : (k : ℕ) → k + 16 ≤ kept_length
      → values (λ i. half other (at + k + 2 * i)) max_stations ≡ values (λ i. half kept (at + k + 2 * i)) max_stations =
      λ k fits. values_same (λ i. half other (at + k + 2 * i)) (λ i. half kept (at + k + 2 * i)) max_stations
      (λ i l. same_half (k + 2 * i) _ (omega arith) (omega arith)) in
      let positions = row 128 (omega arith) in
      let counts = row 160 (omega arith) in
      let priorities = values_same (λ i. lowered (half other (at + 144 + 2 * i))) (λ i. lowered (half kept (at + 144 + 2 * i))) max_stations
      (λ i l. ap lowered (same_half (144 + 2 * i) _ (omega arith) (omega arith))) in
      let n = same 176 _ (omega arith) refl in
      let b = same 177 _ (omega arith) refl in
      let m = same_half 178 _ (omega arith) refl in
      λ i. record {
        vars = vars i;
        positions = positions i;
        priorities = priorities i;
        counts = counts i;
        n = n i;
        b = b i;
        m = m i;
      }

  same_zeros : kept_zeros other j ≡ kept_zeros kept j
  unfolding kept_zeros
  same_zeros =
      let at = kept_offset j in
      each_same (λ i. eqb (get_or other (at + 180 + i) 0) 0) (λ i. eqb (get_or kept (at + 180 + i) 0) 0) 4
      (λ i l. ap (λ (x : ℕ). eqb x 0) (same (180 + i) _ (omega arith) (omega arith)))

-- a place of its own has none of another's bytes
apart : (kept : List ℕ) (s : State) (j k : ℕ) → Held s → HasPlace kept k → 1 ≤ j → 1 ≤ k → j ≢ k → (i at : ℕ) → i < kept_length
    → at ≡ kept_offset j + i → get_or (written kept (kept_offset k) (encoded s)) at 0 ≡ get_or kept at 0
apart kept s j k held room a b other i at l e =
    let long = length_encoded s held in
    let fits : kept_offset k + length (encoded s) ≤ length kept = omega arith in
    by_test (ltb j k)
    (λ y. let z = ltb-true j k y in get_or_before kept (kept_offset k) (encoded s) fits at (omega arith))
    (λ y. let z : k < j = omega (arith, ltb-false j k y, other) in get_or_behind kept (kept_offset k) (encoded s) fits at (omega arith))

pub kept_elsewhere : KeptElsewhere
kept_elsewhere kept s t j k held room a b other keeps =
    let same = apart kept s j k held room a b other in
    let after = written kept (kept_offset k) (encoded s) in
    record { state_is = same_state kept after j same ∙ keeps.state_is; zeros_are = same_zeros kept after j same ∙ keeps.zeros_are }
