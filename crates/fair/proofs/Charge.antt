-- What a step does to the priorities and the counts: the invariant, the bound, the rest and the lengths are kept. Assumes nothing.
use mathlib.Core.Path.{◌≡◌, refl}
use mathlib.Core.Logic.{◌≢◌, ◌⊎◌, inl, inr}
use mathlib.Core.Bool.{Bool, true, false, false≢true}
use mathlib.Core.List.{List}
use Prim.Native.Nat.{ℕ, zero, suc, ◌+◌, ◌≤◌, ◌<◌}
use native.Mathlib.Nat.{not-suc-le-zero}
use native.Mathlib.Omega.{arith}
use borrow.Author.Tests.{leb-true, leb-false, le-leb, eqb-true, eqb-false}
use lib.Dec.{eqb}
use lib.ListN.{length}
use lib.IntN.{ℤ, pos, negsuc, ◌-ℤ◌}
use Rattle.rules.specs.Records.{Pick}
use Rattle.rules.specs.State.{State, priority, count, in_bound, few_low}
use Rattle.rules.specs.Ready.{ready}
use Rattle.rules.specs.Turn.{charged, counted}
use Rattle.rules.specs.Step.{charge, counts_after, stepped}
use Rattle.laws.proofs.Choice.{by_test}
use Rattle.fair.specs.Fair.{Inv}
use Rattle.fair.specs.Charged.{Chosen, FewLowKept, AboveLow, BoundKept, RestKept, LengthKept}
use Rattle.fair.proofs.Order.{low, low_loses}
use Rattle.laws.proofs.Changed.{length_changed, changed_at, changed_past, changed_has}
use Rattle.laws.proofs.Signed.{up, down, less_sums, in_bound_means}
use Rattle.fair.proofs.Invariant.{Falls, inv_kept, inv_above}

module _ (list : List ℕ) (s : State) (p : Pick) where
  -- a station's number after the step is the reset, one less or the same, as the station was picked, was ready or neither; or the 0 of a
  -- list too short to have it
  charge_has : (P : ℤ → Type 0) (j : ℕ) → j < s.n → P (pos 0)
      → (j ≡ p.station → P (pos p.reset))
      → (j ≢ p.station → ready list s j ≡ true → P (priority s j -ℤ pos 1))
      → (j ≢ p.station → P (priority s j))
      → P (priority (stepped list s p) j)
  unfolding stepped charge
  charge_has P j l none picked lost same =
      changed_has P (λ k. charged (eqb k p.station) (ready list s k) p.reset) s.n s.priorities j (pos 0) l none
      (by_test (eqb j p.station)
      (λ e. rw e (picked (eqb-true j p.station e)))
      (λ e. by_test (ready list s j)
      (λ r. rw (e, r) (lost (eqb-false j p.station e) r))
      (λ r. rw (e, r) (same (eqb-false j p.station e)))))

  falls : Chosen list s p.station → Falls s.n (ready list s) (priority s) (priority (stepped list s p)) p.station
  falls c =
      record {
        picked = λ k. charge_has (λ z. low (suc k) z ≡ false) p.station c.station refl (λ e. refl) (λ d r. absurd (d refl))
            (λ d. absurd (d refl));
        others = λ j k l. charge_has
            (λ z. low (suc k) z ≡ true → ((ready list s j ≡ true) × (low k (priority s j) ≡ true)) ⊎ (low (suc k) (priority s j) ≡ true)) j l
            (λ h. absurd (false≢true h)) (λ e h. absurd (false≢true h)) (λ d r h. inl (r, rw low_loses at h)) (λ d h. inr h);
      }

-- the rule on k is document 002's INV
few_inv : (s : State) → ((i : ℕ) → i < s.n → few_low s (suc i) ≡ true) → Inv s.n (priority s)
unfolding few_low
few_inv s h i l = leb-true _ s.n (h i l)

pub few_low_kept : FewLowKept
unfolding few_low stepped
few_low_kept list s p c h i l =
    le-leb _ s.n
    (inv_kept s.n (ready list s) (priority s) (priority (stepped list s p)) p.station c (falls list s p c) (few_inv s h) i l)

pub above_low : AboveLow
above_low s h = inv_above s.n (priority s) (few_inv s h)

-- where a station has a priority and a count, they are charged and counted
pub charge_at : (list : List ℕ) (s : State) (p : Pick) → s.n ≤ length s.priorities → (j : ℕ) → j < s.n
    → priority (stepped list s p) j ≡ charged (eqb j p.station) (ready list s j) p.reset (priority s j)
unfolding stepped charge
charge_at list s p long j l =
    changed_at (λ k. charged (eqb k p.station) (ready list s k) p.reset) s.n s.priorities j (pos 0) l (omega arith)

pub count_at : (list : List ℕ) (s : State) (p : Pick) → s.n ≤ length s.counts → (j : ℕ) → j < s.n
    → count (stepped list s p) j ≡ counted (eqb j p.station) (ready list s j) (count s j)
unfolding stepped counts_after
count_at list s p long j l =
    changed_at (λ k. counted (eqb k p.station) (ready list s k)) s.n s.counts j 0 l (omega arith)

-- what the count gains, the priority loses
turn : (b : ℕ) (picked ready : Bool) (reset : ℕ) (z : ℤ) (c : ℕ) → reset ≤ b → up z + c ≤ b + down z
    → up (charged picked ready reset z) + counted picked ready c ≤ b + down (charged picked ready reset z)
turn b true ready reset z c r h = omega arith
turn b false true reset z c r h = omega (arith, less_sums z)
turn b false false reset z c r h = h

pub bound_kept : BoundKept
bound_kept list s p long enough r h j l =
    let picked = eqb j p.station in
    (in_bound_means s.b (priority (stepped list s p) j) (count (stepped list s p) j)).1
    (rw (charge_at list s p long j l, count_at list s p enough j l)
    (turn s.b picked (ready list s j) p.reset (priority s j) (count s j) r
    ((in_bound_means s.b (priority s j) (count s j)).0 (h j l))))

-- above -n, there is less than n below 0
above_down : (n : ℕ) (z : ℤ) → 1 ≤ n → low n z ≡ false → down z + 1 ≤ n
above_down n (pos a) some h = omega arith
above_down zero (negsuc a) some h = absurd (not-suc-le-zero some)
above_down (suc n) (negsuc a) some h = omega (arith, leb-false n a h)

-- with the rule on k this keeps every count at B+n-1 at most
pub count_low : (s : State) → ((i : ℕ) → i < s.n → few_low s (suc i) ≡ true)
    → ((j : ℕ) → j < s.n → in_bound s.b (priority s j) (count s j) ≡ true)
    → (j : ℕ) → j < s.n → count s j + 1 ≤ s.b + s.n
count_low s few h j l =
    omega (arith, (in_bound_means s.b (priority s j) (count s j)).0 (h j l), above_down s.n (priority s j) (omega arith) (above_low s few j l))

pub rest_kept : RestKept
unfolding stepped charge counts_after
rest_kept list s p j l = (changed_past _ s.n s.priorities j (pos 0) l, changed_past _ s.n s.counts j 0 l)

pub length_kept : LengthKept
unfolding stepped charge counts_after
length_kept list s p = (length_changed _ s.n s.priorities, length_changed _ s.n s.counts)
