-- A clause of a sound state, at what the code counts. Assumes nothing.
use Prim.Native.Nat.{ℕ, suc, ◌+◌}
use mathlib.Core.Path.{◌≡◌}
use mathlib.Core.List.{List}
use native.Mathlib.Numerals.{add-one}
use lib.Dec.{leb}
use lib.IntN.{ℤ, pos, neg_ℤ}
use lib.Signed.{le_z}
use Rattle.rules.specs.Words.{tally}
use Rattle.rules.specs.State.{priority_in, few_low_in}

-- the rule on k, at the count of those that are -k or lower
pub few_low_counted :
    (priorities : List ℤ) (n i : ℕ) {count : ℕ} → count ≡ tally (λ j. le_z (priority_in priorities j) (neg_ℤ (pos (i + 1)))) n →
    few_low_in priorities n (suc i) ≡ leb (count + (i + 1)) n
few_low_counted priorities n i counted = rw (counted, add-one)
