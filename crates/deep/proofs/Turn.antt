-- A turn of the reader's loop, in which it reads the record at a place: what it has found so far is found from the place that it
-- goes to next. Assumes nothing.
use mathlib.Core.Path.{◌≡◌, sym, ap, ◌∙◌}
use mathlib.Core.Bool.{Bool, false}
use mathlib.Core.List.{List, [], ◌∷◌}
use Prim.Native.Nat.{ℕ, ◌+◌, ◌*◌, ◌-◌, ◌≤◌, ◌<◌}
use native.Mathlib.Omega.{arith}
use lib.ListN.{length, get_or, drop, drop_of_length-le}
use lib.Seq.{drop-drop}
use Rattle.rules.specs.Records.{record_count}
use Rattle.rules.specs.Check.{kinds}
use Rattle.parts.specs.declared.Part.{Part}
use Rattle.parts.specs.declared.Stride.{Stride}
use Rattle.parts.specs.declared.Stride.TheVariants.{On, Into, Out, Off}
use Rattle.deep.specs.declared.Read.{Read}
use Rattle.deep.specs.declared.Read.TheVariants.{Closed, Wrong, Short}
use Rattle.parts.specs.Strides.{grown, stride_of}
use Rattle.deep.specs.Reading.{shift, finished_part, carried, reading}
use Rattle.laws.proofs.Kind.{length_kinds, kinds_from, from, kinds_part, length_part}
use Rattle.deep.proofs.Nested.{shift_shift, resumed, nested, Within, within}

-- all that is found is found from a place on, in a part with these open around it
abbrev pub FoundIn : List ℕ → Read → Part → List Part → ℕ → Type 0
FoundIn s all part parts at = all ≡ shift at (reading part parts (drop at (kinds s)))

abbrev pub Found : List ℕ → Read → Part → ℕ → Type 0
Found s all part at = FoundIn s all part [] at

-- reading the part of a slice after a record answers a place within it
pub within_part : (s : List ℕ) (at : ℕ) (inner : Part) (r : Read) → at < record_count s → r ≡ reading inner [] (kinds (from s (at + 1)))
    → (v : Read) → r ≡ v → Within v (record_count s - (at + 1))
within_part s at inner r h e v is =
    rw (sym is ∙ e, ← length_part s (at + 1) (omega arith)) (within (kinds (from s (at + 1))) inner [])

-- after the last record
pub turn_end : (s : List ℕ) (all : Read) (part : Part) (parts : List Part) (at : ℕ) → FoundIn s all part parts at → record_count s ≤ at
    → all ≡ Short (finished_part part parts)
unfolding reading
turn_end s all part parts at found below =
    let e : length (kinds s) ≤ at = rw length_kinds below in
    found ∙ rw (drop_of_length-le (kinds s) e)

module _ (s : List ℕ) (all : Read) (part : Part) (parts : List Part) (at : ℕ) (h : at < record_count s)
    (found : FoundIn s all part parts at) (w : Stride) (is : w ≡ stride_of part (get_or s (8 * at) 0)) where
  turn : all ≡ shift at (carried (λ p ps. reading p ps (drop (at + 1) (kinds s))) w part parts)
  unfolding reading
  turn = found ∙ rw (kinds_from s at h, is)

  pub turn_on : (same : Part) → w ≡ On same → FoundIn s all same parts (at + 1)
  turn_on same e = (rw e at turn) ∙ shift_shift at 1 (reading same parts (drop (at + 1) (kinds s)))

  -- a part more is open
  pub turn_open : (inner : Part) → w ≡ Into inner → FoundIn s all inner (grown part ∷ parts) (at + 1)
  turn_open inner e = (rw e at turn) ∙ shift_shift at 1 (reading inner (grown part ∷ parts) (drop (at + 1) (kinds s)))

  pub turn_out : w ≡ Out → parts ≡ [] → all ≡ Closed at
  turn_out e none = (rw (e, none) at turn) ∙ ap Closed (omega arith)

  -- a part fewer is open
  pub turn_close : (outer : Part) (rest : List Part) → w ≡ Out → parts ≡ outer ∷ rest → FoundIn s all outer rest (at + 1)
  turn_close outer rest e around =
      (rw (e, around) at turn) ∙ shift_shift at 1 (reading outer rest (drop (at + 1) (kinds s)))

  pub turn_off : w ≡ Off → all ≡ Wrong at
  turn_off e = (rw e at turn) ∙ ap Wrong (omega arith)

module _ (s : List ℕ) (all : Read) (part : Part) (at : ℕ) (h : at < record_count s) (found : Found s all part at)
    (w : Stride) (is : w ≡ stride_of part (get_or s (8 * at) 0)) where
  module _ (inner : Part) (into : w ≡ Into inner) (r : Read) (read : r ≡ reading inner [] (kinds (from s (at + 1)))) where
    turn_into : all ≡ shift (at + 1) (resumed (grown part) [] (drop (at + 1) (kinds s)) r)
    turn_into =
        let rest = drop (at + 1) (kinds s) in
        let e : reading inner [] rest ≡ r = rw (← kinds_part s (at + 1) (omega arith)) (sym read) in
        turn_open s all part [] at h found w is inner into
        ∙ ap (shift (at + 1)) (nested rest inner [] (grown part) [] ∙ ap (resumed (grown part) [] rest) e)

    pub turn_closed : (place : ℕ) → r ≡ Closed place → Found s all (grown part) (at + 1 + place + 1)
    turn_closed place e =
        let f : at + 1 + (place + 1) ≡ at + 1 + place + 1 = omega arith in
        (rw e at turn_into) ∙ shift_shift (at + 1) (place + 1) (reading (grown part) [] (drop (place + 1) (drop (at + 1) (kinds s))))
        ∙ rw (drop-drop (place + 1) (at + 1) (kinds s), f)

    pub turn_wrong : (place : ℕ) → r ≡ Wrong place → all ≡ Wrong (at + 1 + place)
    turn_wrong place e = rw e at turn_into

    pub turn_short : (b : Bool) → r ≡ Short b → all ≡ Short false
    turn_short b e = rw e at turn_into
