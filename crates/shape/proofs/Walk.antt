-- Reading the parts of a file is the rules' walk over it: what reading finds decides the file's shape. Assumes nothing.
use Rattle.std.specs.Prelude.{Result, Ok, Err, if◌then◌else◌}
use mathlib.Core.Path.{◌≡◌, refl, ap, ◌∙◌}
use mathlib.Core.Bool.{true, false, ◌&&◌, not}
use mathlib.Core.List.{List, [], ◌∷◌}
use Prim.Native.Nat.{ℕ, suc, ◌+◌}
use native.Mathlib.Omega.{arith}
use lib.Dec.{eqb}
use lib.ListN.{length}
use borrow.Author.Tests.{eqb-true}
use Rattle.rules.specs.Words.{among}
use Rattle.rules.specs.Names.{STATION, SKIP, SET, IF, ELSE, WHILE, AWAIT}
use Rattle.rules.specs.Shape.{Stand, within, wrong, leave, close, stride, is_wrong, finished, wrong_at, walked}
use Rattle.rules.specs.Shape.{Part as OpenPart}
use Rattle.laws.proofs.Choice.{by_test, both_left}
use Rattle.parts.specs.declared.Part.{Part}
use Rattle.parts.specs.declared.Stride.{Stride}
use Rattle.parts.specs.declared.Stride.TheVariants.{On, Into, Out, Off}
use Rattle.laws.proofs.Shapes.{wrong_stays}
use Rattle.deep.specs.declared.Read.{Read}
use Rattle.deep.specs.declared.Read.TheVariants.{Closed, Wrong, Short}
use Rattle.parts.specs.Strides.{grown, closed, stride_of}
use Rattle.deep.specs.Reading.{shift, carried, reading}

-- the rules' part, and where the rules' walk stands
abbrev as_part : Part → OpenPart
as_part part = record { closed_by = part.close; in_body = part.body; begun = part.begun }

abbrev as_parts : List Part → List OpenPart
as_parts [] = []
as_parts (part ∷ parts) = as_part part ∷ as_parts parts

abbrev pub stand : Part → List Part → Stand
stand part parts = within (as_part part) (as_parts parts)

-- where a stride takes the rules' walk
abbrev taken : Stride → Part → List Part → Stand
taken (On same) part parts = stand same parts
taken (Into inner) part parts = stand inner (grown part ∷ parts)
taken Out part parts = leave (as_parts parts)
taken Off part parts = wrong

closes : (part : Part) (parts : List Part) → close part.close part.body (as_parts parts) ≡ taken (closed part) part parts
closes part parts =
    by_test (eqb part.close STATION) (λ e. rw e)
    (λ e. by_test (eqb part.close ELSE) (λ f. rw (e, f)) (λ f. rw (e, f)))

strides : (part : Part) (parts : List Part) (kind : ℕ) → stride (stand part parts) kind ≡ taken (stride_of part kind) part parts
unfolding stride stride_of
strides part parts kind =
    by_test (among kind (SKIP ∷ SET ∷ [])) (λ a. rw a)
    (λ a. by_test (eqb kind IF) (λ b. rw (a, b))
    (λ b. by_test (eqb kind WHILE && not part.body) (λ d. rw (a, b, d))
    (λ d. by_test (eqb kind AWAIT && not part.body) (λ e. rw (a, b, d, e))
    (λ e. by_test (eqb kind part.close && part.begun)
    (λ f. rw (a, b, d, e, f) (rw (eqb-true kind part.close (both_left _ _ f)) (closes part parts))) (λ f. rw (a, b, d, e, f))))))

-- the shape that a walk from a stand finds
abbrev pub judged : Stand → List ℕ → Result Unit ℕ
judged at kinds = if finished (walked at kinds) then Ok tt else Err (wrong_at at kinds)

-- a place counted from so many records further back
abbrev pub onward : ℕ → Result Unit ℕ → Result Unit ℕ
onward d (Ok t) = Ok t
onward d (Err place) = Err (d + place)

pub judged_wrong : (at : Stand) (kind : ℕ) (kinds : List ℕ) → stride at kind ≡ wrong → judged at (kind ∷ kinds) ≡ Err 0
unfolding walked wrong_at
judged_wrong at kind kinds e = rw (e, wrong_stays kinds)

pub judged_more : (at next : Stand) (kind : ℕ) (kinds : List ℕ) → stride at kind ≡ next → is_wrong next ≡ false
    → judged at (kind ∷ kinds) ≡ onward 1 (judged next kinds)
unfolding walked wrong_at
judged_more at next kind kinds e n =
    by_test (finished (walked next kinds)) (λ f. rw (e, n, f))
    (λ f. rw (e, n, f) (ap Err (omega arith)))

-- what reading finds, as the shape of a file whose records end there
abbrev pub shaped : Read → ℕ → Result Unit ℕ
shaped (Closed place) count = Err place
shaped (Wrong place) count = Err place
shaped (Short finished) count = if finished then Ok tt else Err count

shaped_shift : (r : Read) (count : ℕ) → onward 1 (shaped r count) ≡ shaped (shift 1 r) (suc count)
shaped_shift (Closed place) count = refl
shaped_shift (Wrong place) count = refl
shaped_shift (Short true) count = refl
shaped_shift (Short false) count = ap Err (omega arith)

abbrev Walks : List ℕ → Type 0
Walks kinds = (part : Part) (parts : List Part) → judged (stand part parts) kinds ≡ shaped (reading part parts kinds) (length kinds)

walks_more : (kind : ℕ) (kinds : List ℕ) → Walks kinds → (w : Stride) (part : Part) (parts : List Part)
    → stride (stand part parts) kind ≡ taken w part parts
    → judged (stand part parts) (kind ∷ kinds) ≡ shaped (carried (λ p ps. reading p ps kinds) w part parts) (suc (length kinds))
walks_more kind kinds rest (On same) part parts e =
    judged_more _ _ kind kinds e refl ∙ ap (onward 1) (rest same parts) ∙ shaped_shift (reading same parts kinds) (length kinds)
walks_more kind kinds rest (Into inner) part parts e =
    judged_more _ _ kind kinds e refl ∙ ap (onward 1) (rest inner (grown part ∷ parts))
    ∙ shaped_shift (reading inner (grown part ∷ parts) kinds) (length kinds)
walks_more kind kinds rest Out part [] e = judged_wrong _ kind kinds e
walks_more kind kinds rest Out part (outer ∷ parts) e =
    judged_more _ _ kind kinds e refl ∙ ap (onward 1) (rest outer parts) ∙ shaped_shift (reading outer parts kinds) (length kinds)
walks_more kind kinds rest Off part parts e = judged_wrong _ kind kinds e

pub walks : (kinds : List ℕ) → Walks kinds
unfolding reading walked wrong_at
walks [] part [] = refl
walks [] part (outer ∷ parts) = refl
walks (kind ∷ kinds) part parts = walks_more kind kinds (walks kinds) (stride_of part kind) part parts (strides part parts kind)
