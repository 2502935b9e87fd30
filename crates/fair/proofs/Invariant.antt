-- FAIR's invariant is kept: the argument of document 002's Theorem 4.1, for any n. Assumes nothing.
use mathlib.Core.Path.{◌≡◌, refl}
use mathlib.Core.Logic.{◌⊎◌, ⊎_elim}
use mathlib.Core.Bool.{Bool, true, false, false≢true}
use Prim.Native.Nat.{ℕ, zero, suc, ◌+◌, ◌≤◌, ◌<◌}
use native.Mathlib.Omega.{arith}
use lib.IntN.{ℤ, pos, neg_ℤ}
use Rattle.rules.specs.Words.{tally}
use Rattle.laws.proofs.Choice.{by_test}
use Rattle.laws.proofs.Places.{tally_within}
use Rattle.fair.specs.Fair.{Sch, Inv}
use Rattle.fair.proofs.Order.{low, low_more, le_z_trans}
use Rattle.laws.proofs.Counts.{tally_within_other, tally_less}

-- how the numbers of n stations may fall when station i is picked: its own is not negative, and one that is low is a ready station's that
-- was one step less low, or was as low before
pub record Falls (n : ℕ) (ready : ℕ → Bool) (z z' : ℕ → ℤ) (i : ℕ) : Type 0 where
  pub picked : (k : ℕ) → low (suc k) (z' i) ≡ false
  pub others : (j k : ℕ) → j < n → low (suc k) (z' j) ≡ true → ((ready j ≡ true) × (low k (z j) ≡ true)) ⊎ (low (suc k) (z j) ≡ true)

-- INV also holds at k = 0, where it does not state it
inv_from_zero : (n : ℕ) (z : ℕ → ℤ) → Inv n z → (k : ℕ) → k ≤ n → tally (λ j. low k (z j)) n + k ≤ n
inv_from_zero n z v zero l = omega (arith, tally_within (λ j. low 0 (z j)) n)
inv_from_zero n z v (suc k) l = omega (arith, v k l)

module _ (n : ℕ) (ready : ℕ → Bool) (z z' : ℕ → ℤ) (i : ℕ) (c : Sch n ready z i) (f : Falls n ready z z' i) (k : ℕ) where
  -- the picked one was low: it leaves those that were, and nobody comes to them
  leaves : low k (z i) ≡ true → tally (λ j. low (suc k) (z' j)) n + 1 ≤ tally (λ j. low k (z j)) n
  leaves e =
      tally_less (λ j. low (suc k) (z' j)) (λ j. low k (z j)) n
      (λ j l h. ⊎_elim (λ r. r.1) (λ d. low_more k (z j) d) (f.others j k l h)) i c.station (f.picked k) e

  -- it was not low: no ready one was, so nobody comes to those that are
  stay : low k (z i) ≡ false → tally (λ j. low (suc k) (z' j)) n ≤ tally (λ j. low (suc k) (z j)) n
  stay e =
      tally_within_other (λ j. low (suc k) (z' j)) (λ j. low (suc k) (z j)) n
      (λ j l h. ⊎_elim
      (λ r. let d : low k (z i) ≡ true = le_z_trans (z i) (z j) (neg_ℤ (pos k)) (c.lowest j l r.0) r.1 in cc)
      (λ d. d) (f.others j k l h))

pub inv_kept : (n : ℕ) (ready : ℕ → Bool) (z z' : ℕ → ℤ) (i : ℕ) → Sch n ready z i → Falls n ready z z' i → Inv n z → Inv n z'
inv_kept n ready z z' i c f v k l =
    by_test (low k (z i))
    (λ e. omega (arith, leaves n ready z z' i c f k e, inv_from_zero n z v k (omega arith)))
    (λ e. omega (arith, stay n ready z z' i c f k e, v k l))

-- at most n-n numbers are -n or lower
pub inv_above : (n : ℕ) (z : ℕ → ℤ) → Inv n z → (j : ℕ) → j < n → low n (z j) ≡ false
inv_above n z v j l =
    by_test (low n (z j))
    (λ e. absurd (omega (
      arith,
      inv_from_zero n z v n (omega arith),
      tally_less (λ k. false) (λ k. low n (z k)) n (λ k m d. absurd (false≢true d)) j l refl e,
    )))
    (λ e. e)
