-- The parts that are open around another, as the row has them, the innermost last. Assumes nothing.
use mathlib.Core.Path.{◌≡◌, refl}
use mathlib.Core.Bool.{Bool, false, ◌&&◌}
use mathlib.Core.List.{List, [], ◌∷◌}
use Prim.Native.Nat.{ℕ, zero, suc, ◌+◌, ◌-◌, ◌≤◌, ◌<◌}
use native.Mathlib.Numerals.{add-one}
use native.Mathlib.Omega.{arith}
use lib.Dec.{eqb}
use lib.ListN.{length, get_or, set}
use lib.Seq.{get_or-set_same, get_or-set_other}
use borrow.Author.Tests.{ne_eqb}
use Rattle.parts.specs.declared.Part.{Part}
use Rattle.parts.specs.Strides.{opened, grown}
use Rattle.deep.specs.Reading.{finished_part}

-- a part that has a statement, by what closes it and whether it stands in a body
abbrev pub grown_of : ℕ × Bool → Part
grown_of (close, body) = grown (opened close body)

unfoldable pub around : ℕ → List (ℕ × Bool) → List Part
around zero row = []
around (suc k) row = grown_of (get_or row k (0, false)) ∷ around k row

-- what is written past the parts changes nothing
around_past : (k i : ℕ) (row : List (ℕ × Bool)) (part : ℕ × Bool) → k ≤ i → around k (set row i part) ≡ around k row
unfolding around
around_past zero i row part h = refl
around_past (suc k) i row part h =
    rw (get_or-set_other row i k part (0, false) (λ e. omega arith), around_past k i row part (omega arith))

-- a part more
pub around_more : (k : ℕ) (row : List (ℕ × Bool)) (part : ℕ × Bool) → k < length row → around (k + 1) (set row k part) ≡ grown_of part ∷ around k row
unfolding around
around_more k row part h =
    rw (add-one, get_or-set_same row k part (0, false) h, around_past k k row part (omega arith))

-- a part fewer
pub around_fewer : (k : ℕ) (row : List (ℕ × Bool)) → (k ≡ 0 → ⊥) → around k row ≡ grown_of (get_or row (k - 1) (0, false)) ∷ around (k - 1) row
unfolding around
around_fewer zero row some = absurd (some refl)
around_fewer (suc k) row some = let e : suc k - 1 ≡ k = omega arith in rw e

-- a part is finished where none is around it and it has a statement
pub around_finished : (part : Part) (k : ℕ) (row : List (ℕ × Bool)) → finished_part part (around k row) ≡ (eqb k 0 && part.begun)
unfolding around
around_finished part zero row = refl
around_finished part (suc k) row = rw (ne_eqb (suc k) 0 (λ e. omega arith))
