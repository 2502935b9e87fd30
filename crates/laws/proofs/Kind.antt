-- The kinds of the records of a slice: how many, one after another, and those of a part of the slice. Assumes nothing.
use mathlib.Core.Path.{◌≡◌, sym, ap, ◌∙◌}
use mathlib.Core.List.{List, ◌∷◌}
use Prim.Native.Nat.{ℕ, ◌+◌, ◌*◌, ◌-◌, ◌/◌, ◌≤◌, ◌<◌}
use native.Mathlib.Numerals.{add-one}
use native.Mathlib.Omega.{arith}
use lib.ListN.{length, get_or, take, drop, length-drop}
use lib.Seq.{drop-cons, get_or-drop, take_all, ext_get_or}
use Rattle.rules.specs.Records.{record_from, record_at, record_count}
use Rattle.rules.specs.Check.{kinds}
use Rattle.laws.proofs.Places.{length_values, get_or_values}

pub length_kinds : (s : List ℕ) → length (kinds s) ≡ record_count s
length_kinds s = length_values (λ i. (record_at s i).kind) (record_count s)

-- the kind of a record is its first byte
kind_at : (s : List ℕ) (i : ℕ) → i < record_count s → get_or (kinds s) i 0 ≡ get_or s (8 * i) 0
unfolding record_from
kind_at s i h = get_or_values (λ j. (record_at s j).kind) (record_count s) i 0 h

-- from a place on: the record there, and those after it
pub kinds_from : (s : List ℕ) (at : ℕ) → at < record_count s → drop at (kinds s) ≡ get_or s (8 * at) 0 ∷ drop (at + 1) (kinds s)
kinds_from s at h =
    let l : at < length (kinds s) = rw length_kinds h in
    rw (add-one, ← kind_at s at h, drop-cons (kinds s) at 0)

kinds_drop : (s : List ℕ) (at : ℕ) → 8 * at ≤ length s → kinds (drop (8 * at) s) ≡ drop at (kinds s)
kinds_drop s at h = ext_get_or 0 _ _ counts same
  where
    counts : length (kinds (drop (8 * at) s)) ≡ length (drop at (kinds s))
    counts =
        let a = length_kinds (drop (8 * at) s) in
        let b = length_kinds s in
        rw (a, length-drop (8 * at) s, length-drop at (kinds s), b) (omega arith)

    same : (i : ℕ) → i < length (kinds (drop (8 * at) s)) → get_or (kinds (drop (8 * at) s)) i 0 ≡ get_or (drop at (kinds s)) i 0
    same i l =
        let d : i < record_count (drop (8 * at) s) = rw length_kinds at l in
        let m : i < (length s - 8 * at) / 8 = rw length-drop at d in
        let k : at + i < record_count s = omega arith in
        let e : 8 * at + 8 * i ≡ 8 * (at + i) = omega arith in
        kind_at (drop (8 * at) s) i d ∙ get_or-drop (8 * at) s (8 * i) 0 ∙ ap (λ (o : ℕ). get_or s o 0) e
        ∙ sym (get_or-drop at (kinds s) i 0 ∙ kind_at s (at + i) k)

-- the part of a slice that starts at a place
abbrev pub from : List ℕ → ℕ → List ℕ
from s at = take (length s - 8 * at) (drop (8 * at) s)

pub kinds_part : (s : List ℕ) (at : ℕ) → at ≤ record_count s → kinds (from s at) ≡ drop at (kinds s)
kinds_part s at h =
    let l : length (drop (8 * at) s) ≤ length s - 8 * at = rw length-drop (omega arith) in
    ap kinds (take_all (length s - 8 * at) (drop (8 * at) s) l) ∙ kinds_drop s at (omega arith)

pub length_part : (s : List ℕ) (at : ℕ) → at ≤ record_count s → length (kinds (from s at)) ≡ record_count s - at
length_part s at h = rw (kinds_part s at h, length-drop at (kinds s), length_kinds s)
