-- Tests at the places 0 to n-1: what `each`, `first`, `tally` and `values` say of a single place, and of one place more at the end,
-- which is what a loop needs. Assumes nothing.
use Rattle.std.specs.Prelude.{if◌then◌else◌}
use mathlib.Core.Path.{◌≡◌, refl, ap}
use mathlib.Core.Bool.{Bool, true, false, ◌&&◌}
use mathlib.Core.List.{List, [], ◌∷◌, ◌++◌}
use Prim.Native.Nat.{ℕ, zero, suc, ◌+◌, ◌-◌, ◌≤◌, ◌<◌, zero-le}
use native.Mathlib.Nat.{not-suc-le-zero, le_of_suc-le-suc}
use native.Mathlib.Numerals.{add-one}
use native.Mathlib.Omega.{arith}
use lib.ListN.{length, get_or}
use Rattle.rules.specs.Words.{each, first, tally, values}
use Rattle.laws.proofs.Choice.{by_test, both, both_left, both_right, not_both_left, not_both_right}

-- each of n places passes exactly when every place below n does
pub each_at : (f : ℕ → Bool) (n : ℕ) → each f n ≡ true → (i : ℕ) → i < n → f i ≡ true
unfolding each
each_at f zero e i h = absurd (not-suc-le-zero h)
each_at f (suc n) e zero h = both_left (f 0) _ e
each_at f (suc n) e (suc i) h = each_at (λ k. f (suc k)) n (both_right (f 0) _ e) i (le_of_suc-le-suc h)

pub each_all : (f : ℕ → Bool) (n : ℕ) → ((i : ℕ) → i < n → f i ≡ true) → each f n ≡ true
unfolding each
each_all f zero h = refl
each_all f (suc n) h = both (h 0 (omega arith)) (each_all (λ k. f (suc k)) n (λ i l. h (suc i) (omega arith)))

-- each place from one on, below a count
pub each_from : (f : ℕ → Bool) (from count : ℕ) → each (λ i. f (from + i)) (count - from) ≡ true
    → (p : ℕ) → from ≤ p → p < count → f p ≡ true
each_from f from count h p a b =
    let e : from + (p - from) ≡ p = omega arith in
    rw e at (each_at (λ i. f (from + i)) (count - from) h (p - from) (omega arith))

-- one place that fails is enough
pub each_not : (f : ℕ → Bool) (n i : ℕ) → i < n → f i ≡ false → each f n ≡ false
unfolding each
each_not f zero i h e = absurd (not-suc-le-zero h)
each_not f (suc n) zero h e = not_both_left (f 0) _ e
each_not f (suc n) (suc i) h e = not_both_right (f 0) _ (each_not (λ k. f (suc k)) n i (le_of_suc-le-suc h) e)

-- the tests need agree only below n
pub each_same : (f g : ℕ → Bool) (n : ℕ) → ((i : ℕ) → i < n → f i ≡ g i) → each f n ≡ each g n
unfolding each
each_same f g zero h = refl
each_same f g (suc n) h = rw (h 0 (omega arith), each_same (λ k. f (suc k)) (λ k. g (suc k)) n (λ i l. h (suc i) (omega arith)))

-- one place more at the end, which passes
each_suc : (f : ℕ → Bool) (n : ℕ) → f n ≡ true → each f (suc n) ≡ each f n
unfolding each
each_suc f zero e = rw e
each_suc f (suc n) e = ap (λ (rest : Bool). f 0 && rest) (each_suc (λ k. f (suc k)) n e)

pub each_more : (f : ℕ → Bool) (n : ℕ) → f n ≡ true → each f (n + 1) ≡ each f n
each_more f n e = rw add-one (each_suc f n e)

-- the first place at which the test holds: it is i where the test holds at i and at none below
pub first_is : (f : ℕ → Bool) (n i : ℕ) → i < n → f i ≡ true → ((k : ℕ) → k < i → f k ≡ false) → first f n ≡ i
unfolding first
first_is f zero i h e p = absurd (not-suc-le-zero h)
first_is f (suc n) zero h e p = rw e
first_is f (suc n) (suc i) h e p =
    rw (p 0 (omega arith), first_is (λ k. f (suc k)) n i (le_of_suc-le-suc h) e (λ k l. p (suc k) (omega arith)))

-- and n where the test holds nowhere below n
pub first_none : (f : ℕ → Bool) (n : ℕ) → ((k : ℕ) → k < n → f k ≡ false) → first f n ≡ n
unfolding first
first_none f zero p = refl
first_none f (suc n) p = rw (p 0 (omega arith), first_none (λ k. f (suc k)) n (λ k l. p (suc k) (omega arith)))

pub first_within : (f : ℕ → Bool) (n : ℕ) → first f n ≤ n
unfolding first
first_within f zero = zero-le
first_within f (suc n) =
    by_test (f 0) (λ e. rw e zero-le) (λ e. rw e (let h = first_within (λ k. f (suc k)) n in omega arith))

-- the test fails at each place before the first, and holds at the first where that is below n
pub first_before : (f : ℕ → Bool) (n k : ℕ) → k < first f n → f k ≡ false
unfolding first
first_before f zero k h = absurd (not-suc-le-zero h)
first_before f (suc n) zero h =
    by_test (f 0) (λ e. absurd (not-suc-le-zero (rw e at h))) (λ e. e)
first_before f (suc n) (suc k) h =
    by_test (f 0) (λ e. absurd (not-suc-le-zero (rw e at h)))
    (λ e. first_before (λ j. f (suc j)) n k (le_of_suc-le-suc (rw e at h)))

pub first_at : (f : ℕ → Bool) (n : ℕ) → first f n < n → f (first f n) ≡ true
unfolding first
first_at f zero h = absurd (not-suc-le-zero h)
first_at f (suc n) h =
    by_test (f 0) (λ e. rw (e, e)) (λ e. rw e (first_at (λ j. f (suc j)) n (le_of_suc-le-suc (rw e at h))))

-- one place more at the end
pub tally_suc : (f : ℕ → Bool) (n : ℕ) → tally f (suc n) ≡ (if f n then suc (tally f n) else tally f n)
unfolding tally
tally_suc f zero = refl
tally_suc f (suc n) =
    let h = tally_suc (λ k. f (suc k)) n in
    by_test (f 0)
    (λ e. by_test (f (suc n)) (λ d. rw (e, h, d)) (λ d. rw (e, h, d)))
    (λ e. by_test (f (suc n)) (λ d. rw (e, h, d)) (λ d. rw (e, h, d)))

pub tally_within : (f : ℕ → Bool) (n : ℕ) → tally f n ≤ n
unfolding tally
tally_within f zero = zero-le
tally_within f (suc n) =
    let h = tally_within (λ k. f (suc k)) n in
    by_test (f 0) (λ e. rw e (omega arith)) (λ e. rw e (omega arith))

module _ {A : Type 0} where
  pub length_values : (f : ℕ → A) (n : ℕ) → length (values f n) ≡ n
  unfolding values
  length_values f zero = refl
  length_values f (suc n) = ap suc (length_values (λ k. f (suc k)) n)

  pub get_or_values : (f : ℕ → A) (n i : ℕ) (d : A) → i < n → get_or (values f n) i d ≡ f i
  unfolding values
  get_or_values f zero i d h = absurd (not-suc-le-zero h)
  get_or_values f (suc n) zero d h = refl
  get_or_values f (suc n) (suc i) d h = get_or_values (λ k. f (suc k)) n i d (le_of_suc-le-suc h)

  pub values_suc : (f : ℕ → A) (n : ℕ) → values f (suc n) ≡ values f n ++ (f n ∷ [])
  unfolding values
  values_suc f zero = refl
  values_suc f (suc n) = ap (λ (l : List A). f 0 ∷ l) (values_suc (λ k. f (suc k)) n)

  pub values_same : (f g : ℕ → A) (n : ℕ) → ((i : ℕ) → i < n → f i ≡ g i) → values f n ≡ values g n
  unfolding values
  values_same f g zero h = refl
  values_same f g (suc n) h = rw (h 0 (omega arith), values_same (λ k. f (suc k)) (λ k. g (suc k)) n (λ i l. h (suc i) (omega arith)))
