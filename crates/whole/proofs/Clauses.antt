-- The clauses of a sound state, at what the code counts. Assumes nothing.
use Prim.Native.Nat.{ℕ, suc, ◌+◌, ◌-◌}
use mathlib.Core.Path.{◌≡◌, refl, ◌∙◌}
use mathlib.Core.Bool.{Bool, true, false, ◌&&◌}
use mathlib.Core.List.{List, []}
use lib.Dec.{eqb, leb}
use Rattle.rules.specs.Words.{each}
use Rattle.rules.specs.Names.{max_stations, max_steps}
use Rattle.rules.specs.List.{stations}
use Rattle.rules.specs.State.{State, position, priority, count, in_bound, few_low, empty_at, sound_state}
use Rattle.rules.specs.List.{later_after, is_at}
use Rattle.laws.specs.Parts.{of_parts}
use Rattle.list.proofs.Given.{later_counted}
use Rattle.rules.specs.State.{few_low_in, empty_in}

-- the whole, at the number of stations and the place of the first later record
pub sound_given :
    (list : List ℕ) (s : State) {n later : ℕ} → n ≡ stations list → later ≡ later_after list n →
    sound_state list s
    ≡ (eqb s.n n && leb s.m max_steps
    && each (λ j. is_at list later 0 j (position s j)) s.n
    && each (λ j. in_bound s.b (priority s j) (count s j)) s.n
    && each (λ i. few_low_in s.priorities s.n (suc i)) s.n
    && each (λ i. empty_in s.positions s.priorities s.counts (s.n + i)) (max_stations - s.n))
unfolding sound_state few_low empty_at
sound_given list s counted found =
    rw (later_counted list counted found, counted)

-- it does not hang on what the variables hold
pub sound_whatever : (list : List ℕ) (s : State)
    → sound_state list (of_parts [] s.positions s.priorities s.counts s.n s.b s.m) ≡ sound_state list s
unfolding sound_state few_low empty_at
sound_whatever list s = refl

-- a test after one that holds, and after one that doesn't
pub and_then : (first next value : Bool) → first ≡ true → value ≡ next → value ≡ (first && next)
and_then first next value e h = rw e h

pub and_else : (first next value : Bool) → first ≡ false → value ≡ first → value ≡ (first && next)
and_else first next value e h = rw e (h ∙ e)
