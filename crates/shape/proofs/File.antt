-- A turn of the loop over the initial part of a file: the shape found from the first record on is found from the next place on, and
-- from the first STATION on it is what reading the records after it finds. Assumes nothing.
use mathlib.Core.Path.{◌≡◌, refl, sym, ap, ◌∙◌}
use mathlib.Core.Bool.{false}
use mathlib.Core.List.{List, []}
use Prim.Native.Nat.{ℕ, ◌+◌, ◌*◌, ◌-◌, ◌≤◌, ◌<◌}
use native.Mathlib.Omega.{arith}
use lib.ListN.{length, get_or, drop, drop_of_length-le}
use borrow.Author.Tests.{ne_eqb}
use Rattle.rules.specs.Names.{STATION, SET}
use Rattle.rules.specs.Records.{record_count}
use Rattle.rules.specs.Shape.{Stand, initial, wrong, stride, is_wrong, walked, wrong_at, well_shaped}
use Rattle.rules.specs.Check.{kinds}
use Rattle.deep.specs.declared.Read.{Read}
use Rattle.std.specs.Prelude.{Result, Ok, Err}
use Rattle.parts.specs.Strides.{opened}
use Rattle.deep.specs.Reading.{reading}
use Rattle.shape.specs.File.{shape_of}
use Rattle.laws.proofs.Kind.{length_kinds, kinds_from, kinds_part, from, length_part}
use Rattle.shape.proofs.Walk.{stand, judged, judged_wrong, judged_more, onward, shaped, walks}

-- the file's shape is found from a place on, in the initial part
abbrev pub Initial : List ℕ → ℕ → Type 0
Initial file at = shape_of (kinds file) ≡ onward at (judged initial (drop at (kinds file)))

onward_none : (f : Result Unit ℕ) → f ≡ onward 0 f
onward_none (Ok t) = refl
onward_none (Err place) = ap Err (omega arith)

onward_onward : (d e : ℕ) (f : Result Unit ℕ) → onward d (onward e f) ≡ onward (d + e) f
onward_onward d e (Ok t) = refl
onward_onward d e (Err place) = ap Err (omega arith)

pub initial_start : (file : List ℕ) → Initial file 0
unfolding well_shaped
initial_start file = onward_none (shape_of (kinds file))

-- a file of no station is unfinished
pub initial_end : (file : List ℕ) (at : ℕ) → Initial file at → at ≤ record_count file → record_count file ≤ at
    → shape_of (kinds file) ≡ Err (record_count file)
unfolding walked wrong_at
initial_end file at found below above =
    let e : length (kinds file) ≤ at = rw length_kinds above in
    found ∙ rw (drop_of_length-le (kinds file) e) (ap Err (omega arith))

module _ (file : List ℕ) (at : ℕ) (h : at < record_count file) (found : Initial file at) where
  turn : (next : Stand) → stride initial (get_or file (8 * at) 0) ≡ next → is_wrong next ≡ false
      → shape_of (kinds file) ≡ onward (at + 1) (judged next (drop (at + 1) (kinds file)))
  turn next e n =
      let rest = drop (at + 1) (kinds file) in
      found
      ∙ ap (onward at) (ap (judged initial) (kinds_from file at h) ∙ judged_more initial next (get_or file (8 * at) 0) rest e n)
      ∙ onward_onward at 1 (judged next rest)

  pub initial_on : get_or file (8 * at) 0 ≡ SET → Initial file (at + 1)
  unfolding stride
  initial_on e = turn initial (rw e) refl

  pub initial_off : (get_or file (8 * at) 0 ≡ STATION → ⊥) → (get_or file (8 * at) 0 ≡ SET → ⊥) → shape_of (kinds file) ≡ Err at
  unfolding stride
  initial_off a b =
      let w : stride initial (get_or file (8 * at) 0) ≡ wrong = rw (ne_eqb _ _ b, ne_eqb _ _ a) in
      found
      ∙ ap (onward at) (ap (judged initial) (kinds_from file at h) ∙ judged_wrong initial (get_or file (8 * at) 0) (drop (at + 1) (kinds file)) w)
      ∙ ap Err (omega arith)

  pub initial_station : get_or file (8 * at) 0 ≡ STATION → (r : Read) → r ≡ reading (opened STATION false) [] (kinds (from file (at + 1)))
      → (v : Read) → r ≡ v → shape_of (kinds file) ≡ onward (at + 1) (shaped v (record_count file - (at + 1)))
  unfolding stride
  initial_station e r read v is =
      let l : at + 1 ≤ record_count file = omega arith in
      let f = walks (kinds (from file (at + 1))) (opened STATION false) [] in
      turn (stand (opened STATION false) []) (rw e) refl
      ∙ ap (onward (at + 1)) (rw (← (sym is ∙ read), length_part file (at + 1) l, kinds_part file (at + 1) l) at f)
