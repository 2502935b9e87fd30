-- Masks from the last place down: a place more before the others takes bit 0, and eight places fit a byte. Assumes nothing.
use mathlib.Core.Path.{◌≡◌, refl, ap}
use mathlib.Core.Bool.{Bool}
use Prim.Native.Nat.{ℕ, zero, suc, ◌+◌, ◌-◌, ◌^◌, ◌≤◌, ◌<◌}
use native.Mathlib.Nat.{pow-succ', not-suc-le-zero, le_of_suc-le-suc}
use native.Mathlib.Omega.{arith}
use lib.Pow.{pow_pos}
use Rattle.rules.specs.Words.{mask}
use Rattle.laws.proofs.Choice.{by_test}
use Rattle.masks.specs.Masks.{with_bit, mask_from}

-- the tests need agree only below n
pub mask_same : (f g : ℕ → Bool) (n : ℕ) → ((i : ℕ) → i < n → f i ≡ g i) → mask f n ≡ mask g n
unfolding mask
mask_same f g zero h = refl
mask_same f g (suc n) h =
    rw (h 0 (omega arith), mask_same (λ i. f (suc i)) (λ i. g (suc i)) n (λ i l. h (suc i) (omega arith)))

-- k places fit k bits
mask_fits : (f : ℕ → Bool) (k n : ℕ) → n ≤ k → mask f n < 2 ^ k
unfolding mask
mask_fits f k zero within = pow_pos k
mask_fits f zero (suc n) within = absurd (not-suc-le-zero within)
mask_fits f (suc k) (suc n) within =
    let rest = mask_fits (λ i. f (suc i)) k n (le_of_suc-le-suc within) in
    rw (pow-succ' 2 k) (by_test (f 0) (λ e. rw e (omega arith)) (λ e. rw e (omega arith)))

pub mask_from_none : (f : ℕ → Bool) (n : ℕ) → 0 ≡ mask_from f n n
unfolding mask_from mask
mask_from_none f n =
    let none : n - n ≡ 0 = omega arith in
    rw none

pub mask_from_more : (f : ℕ → Bool) (n j : ℕ) → j < n → with_bit (f j) (mask_from f n (j + 1)) ≡ mask_from f n j
unfolding mask_from mask
mask_from_more f n j within =
    let one : n - j ≡ suc (n - (j + 1)) = omega arith in
    let first : j + 0 ≡ j = omega arith in
    rw (one, first, mask_same (λ i. f (j + suc i)) (λ i. f (j + 1 + i)) (n - (j + 1)) (λ i l. ap f (omega arith)))

pub mask_from_all : (f : ℕ → Bool) (n : ℕ) → mask_from f n 0 ≡ mask f n
unfolding mask_from
mask_from_all f n =
    let all : n - 0 ≡ n = omega arith in
    rw all (mask_same (λ i. f (0 + i)) f n (λ i l. ap f (omega arith)))

-- room for one place more
pub mask_from_small : (f : ℕ → Bool) (n j : ℕ) → n ≤ 8 → mask_from f n (j + 1) < 128
unfolding mask_from
mask_from_small f n j few = mask_fits (λ i. f (j + 1 + i)) 7 (n - (j + 1)) (omega arith)
