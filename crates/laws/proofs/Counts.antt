-- Tests counted over places. Assumes nothing.
use mathlib.Core.Path.{◌≡◌, refl}
use mathlib.Core.Bool.{Bool, true, false}
use Prim.Native.Nat.{ℕ, zero, suc, ◌+◌, ◌≤◌, ◌<◌, zero-le}
use native.Mathlib.Nat.{not-suc-le-zero, le_of_suc-le-suc}
use native.Mathlib.Omega.{arith}
use Rattle.rules.specs.Words.{tally, values}
use Rattle.laws.specs.Number.{number_of}
use Rattle.laws.proofs.Choice.{by_test}

-- where one test holds the other does: it is counted no less often
pub tally_within_other : (f g : ℕ → Bool) (n : ℕ) → ((j : ℕ) → j < n → f j ≡ true → g j ≡ true) → tally f n ≤ tally g n
unfolding tally
tally_within_other f g zero h = zero-le
tally_within_other f g (suc n) h =
    let t = tally_within_other (λ j. f (suc j)) (λ j. g (suc j)) n (λ j l. h (suc j) (omega arith)) in
    by_test (f 0)
    (λ e. rw (e, h 0 (omega arith) e) (omega arith))
    (λ e. by_test (g 0) (λ d. rw (e, d) (omega arith)) (λ d. rw (e, d) t))

-- and once more often, where it holds at a place at which the one does not
pub tally_less : (f g : ℕ → Bool) (n : ℕ) → ((j : ℕ) → j < n → f j ≡ true → g j ≡ true)
    → (i : ℕ) → i < n → f i ≡ false → g i ≡ true → tally f n + 1 ≤ tally g n
unfolding tally
tally_less f g zero h i l e d = absurd (not-suc-le-zero l)
tally_less f g (suc n) h zero l e d =
    let t = tally_within_other (λ j. f (suc j)) (λ j. g (suc j)) n (λ j k. h (suc j) (omega arith)) in
    rw (e, d) (omega arith)
tally_less f g (suc n) h (suc i) l e d =
    let t = tally_less (λ j. f (suc j)) (λ j. g (suc j)) n (λ j k. h (suc j) (omega arith)) i (le_of_suc-le-suc l) e d in
    by_test (f 0)
    (λ a. rw (a, h 0 (omega arith) a) (omega arith))
    (λ a. by_test (g 0) (λ b. rw (a, b) (omega arith)) (λ b. rw (a, b) t))

pub tally_none : (f : ℕ → Bool) (n : ℕ) → ((j : ℕ) → j < n → f j ≡ false) → tally f n ≡ 0
unfolding tally
tally_none f zero h = refl
tally_none f (suc n) h = rw (h 0 (omega arith)) (tally_none (λ j. f (suc j)) n (λ j l. h (suc j) (omega arith)))

-- a test counted over places is counted over what they hold
pub tally_values : {A : Type 0} (test : A → Bool) (f : ℕ → A) (n : ℕ) → tally (λ i. test (f i)) n ≡ number_of test (values f n)
unfolding tally values number_of
tally_values test f zero = refl
tally_values test f (suc n) = rw (tally_values test (λ i. f (suc i)) n)
