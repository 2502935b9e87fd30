-- A part within a part: reading goes on, from where the inner part was closed, in the part around it. Assumes nothing.
use mathlib.Core.Path.{◌≡◌, refl, ap}
use mathlib.Core.Bool.{false}
use mathlib.Core.List.{List, [], ◌∷◌, ◌++◌}
use Prim.Native.Nat.{ℕ, suc, ◌+◌, ◌<◌}
use native.Mathlib.Omega.{arith}
use lib.ListN.{length, drop}
use Rattle.parts.specs.declared.Part.{Part}
use Rattle.parts.specs.declared.Stride.{Stride}
use Rattle.parts.specs.declared.Stride.TheVariants.{On, Into, Out, Off}
use Rattle.deep.specs.declared.Read.{Read}
use Rattle.deep.specs.declared.Read.TheVariants.{Closed, Wrong, Short}
use Rattle.parts.specs.Strides.{grown, stride_of}
use Rattle.deep.specs.Reading.{shift, finished_part, carried, reading}

pub shift_none : (r : Read) → r ≡ shift 0 r
shift_none (Closed place) = ap Closed (omega arith)
shift_none (Wrong place) = ap Wrong (omega arith)
shift_none (Short b) = refl

pub shift_shift : (d e : ℕ) (r : Read) → shift d (shift e r) ≡ shift (d + e) r
shift_shift d e (Closed place) = ap Closed (omega arith)
shift_shift d e (Wrong place) = ap Wrong (omega arith)
shift_shift d e (Short b) = refl

-- what reading the inner part found, and then in the part around it from the record after the close
abbrev pub resumed : Part → List Part → List ℕ → Read → Read
resumed outer parts kinds (Closed place) = shift (place + 1) (reading outer parts (drop (place + 1) kinds))
resumed outer parts kinds (Wrong place) = Wrong place
resumed outer parts kinds (Short b) = Short false

resumed_shift : (outer : Part) (parts : List Part) (kind : ℕ) (kinds : List ℕ) (r : Read)
    → resumed outer parts (kind ∷ kinds) (shift 1 r) ≡ shift 1 (resumed outer parts kinds r)
resumed_shift outer parts kind kinds (Closed place) =
    let e : 1 + place + 1 ≡ suc (place + 1) = omega arith in
    let f : 1 + (place + 1) ≡ suc (place + 1) = omega arith in
    rw (e, shift_shift 1 (place + 1), f)
resumed_shift outer parts kind kinds (Wrong place) = refl
resumed_shift outer parts kind kinds (Short b) = refl

not_finished : (part : Part) (inner : List Part) (outer : Part) (parts : List Part) → finished_part part (inner ++ (outer ∷ parts)) ≡ false
not_finished part [] outer parts = refl
not_finished part (p ∷ inner) outer parts = refl

-- the parts opened since the inner part began stand on those around it
abbrev Nests : List ℕ → Type 0
Nests kinds =
    (part : Part) (inner : List Part) (outer : Part) (parts : List Part)
    → reading part (inner ++ (outer ∷ parts)) kinds ≡ resumed outer parts kinds (reading part inner kinds)

nested_more : (kind : ℕ) (kinds : List ℕ) → Nests kinds
    → (w : Stride) (part : Part) (inner : List Part) (outer : Part) (parts : List Part)
    → carried (λ p ps. reading p ps kinds) w part (inner ++ (outer ∷ parts))
    ≡ resumed outer parts (kind ∷ kinds) (carried (λ p ps. reading p ps kinds) w part inner)
nested_more kind kinds rest (On same) part inner outer parts = rw (resumed_shift, rest same inner outer parts)
nested_more kind kinds rest (Into deeper) part inner outer parts =
    rw (resumed_shift, rest deeper (grown part ∷ inner) outer parts)
nested_more kind kinds rest Out part [] outer parts = refl
nested_more kind kinds rest Out part (p ∷ inner) outer parts = rw (resumed_shift, rest p inner outer parts)
nested_more kind kinds rest Off part inner outer parts = refl

pub nested : (kinds : List ℕ) → Nests kinds
unfolding reading
nested [] part inner outer parts = ap Short (not_finished part inner outer parts)
nested (kind ∷ kinds) part inner outer parts =
    nested_more kind kinds (nested kinds) (stride_of part kind) part inner outer parts

-- the place that reading answers is one of the records read
abbrev pub Within : Read → ℕ → Type 0
Within (Closed place) count = place < count
Within (Wrong place) count = place < count
Within (Short b) count = Unit {0}

within_shift : (r : Read) (count : ℕ) → Within r count → Within (shift 1 r) (suc count)
within_shift (Closed place) count h = omega arith
within_shift (Wrong place) count h = omega arith
within_shift (Short b) count h = tt

within_more : (kinds : List ℕ) → ((part : Part) (parts : List Part) → Within (reading part parts kinds) (length kinds))
    → (w : Stride) (part : Part) (parts : List Part)
    → Within (carried (λ p ps. reading p ps kinds) w part parts) (suc (length kinds))
within_more kinds rest (On same) part parts = within_shift (reading same parts kinds) (length kinds) (rest same parts)
within_more kinds rest (Into deeper) part parts =
    within_shift (reading deeper (grown part ∷ parts) kinds) (length kinds) (rest deeper (grown part ∷ parts))
within_more kinds rest Out part [] = omega arith
within_more kinds rest Out part (p ∷ parts) = within_shift (reading p parts kinds) (length kinds) (rest p parts)
within_more kinds rest Off part parts = omega arith

pub within : (kinds : List ℕ) (part : Part) (parts : List Part) → Within (reading part parts kinds) (length kinds)
unfolding reading
within [] part parts = tt
within (kind ∷ kinds) part parts = within_more kinds (within kinds) (stride_of part kind) part parts
