-- The order of priorities, as `le_z` tests it: what the rules' own words need of the integers. Assumes nothing.
use mathlib.Core.Path.{◌≡◌, refl, sym}
use mathlib.Core.Bool.{Bool, true, false, not}
use Prim.Native.Nat.{ℕ, zero, suc}
use native.Mathlib.Omega.{arith}
use borrow.Author.Tests.{leb-true, leb-false, le-leb, lt-leb, ltb-true, ltb-false}
use lib.Dec.{leb, ltb, leb-zero, leb-suc-zero, leb-suc-suc}
use lib.IntN.{ℤ, pos, negsuc, neg_ℤ, pred_ℤ, ◌-ℤ◌, -ℤ_one}
use lib.Signed.{le_z, lt_z}
use Rattle.laws.proofs.Choice.{by_test}

-- -k or lower
abbrev pub low : ℕ → ℤ → Bool
low k z = le_z z (neg_ℤ (pos k))

pub le_z_trans : (a b c : ℤ) → le_z a b ≡ true → le_z b c ≡ true → le_z a c ≡ true
le_z_trans (pos a) (pos b) (pos c) h k = le-leb a c (omega (arith, leb-true a b h, leb-true b c k))
le_z_trans (pos a) (pos b) (negsuc c) h k = k
le_z_trans (pos a) (negsuc b) (pos c) h k = cc
le_z_trans (pos a) (negsuc b) (negsuc c) h k = h
le_z_trans (negsuc a) (pos b) (pos c) h k = refl
le_z_trans (negsuc a) (pos b) (negsuc c) h k = cc
le_z_trans (negsuc a) (negsuc b) (pos c) h k = refl
le_z_trans (negsuc a) (negsuc b) (negsuc c) h k = le-leb c a (omega (arith, leb-true b a h, leb-true c b k))

-- of two, one is at most the other
pub le_z_other : (a b : ℤ) → le_z a b ≡ false → le_z b a ≡ true
le_z_other (pos a) (pos b) e = le-leb b a (omega (arith, leb-false a b e))
le_z_other (pos a) (negsuc b) e = refl
le_z_other (negsuc a) (pos b) e = sym e
le_z_other (negsuc a) (negsuc b) e = le-leb a b (omega (arith, leb-false b a e))

leb_not : (a b : ℕ) → leb a b ≡ not (ltb b a)
leb_not a b = by_test (ltb b a) (λ e. rw e (lt-leb a b (ltb-true b a e))) (λ e. rw e (le-leb a b (ltb-false b a e)))

-- one is at most the other where that is not below it
pub le_z_not : (p q : ℤ) → le_z p q ≡ not (lt_z q p)
le_z_not (pos a) (pos b) = leb_not a b
le_z_not (pos a) (negsuc b) = refl
le_z_not (negsuc a) (pos b) = refl
le_z_not (negsuc a) (negsuc b) = leb_not b a

-- losing 1 is becoming low by one more
low_pred : (k : ℕ) (z : ℤ) → low (suc k) (pred_ℤ z) ≡ low k z
low_pred zero (pos zero) = refl
low_pred (suc k) (pos zero) = leb-suc-zero k
low_pred zero (pos (suc a)) = sym (leb-suc-zero a)
low_pred (suc k) (pos (suc a)) = refl
low_pred zero (negsuc a) = leb-zero (suc a)
low_pred (suc k) (negsuc a) = leb-suc-suc k a

pub low_loses : (k : ℕ) (z : ℤ) → low (suc k) (z -ℤ pos 1) ≡ low k z
low_loses k z = rw -ℤ_one (low_pred k z)

-- what is -(k+1) or lower is -k or lower
pub low_more : (k : ℕ) (z : ℤ) → low (suc k) z ≡ true → low k z ≡ true
low_more zero z h = le_z_trans z (negsuc 0) (pos 0) h refl
low_more (suc k) z h = le_z_trans z (negsuc (suc k)) (negsuc k) h (le-leb k (suc k) (omega arith))

pub le_z_refl : (z : ℤ) → le_z z z ≡ true
le_z_refl (pos a) = le-leb a a (omega arith)
le_z_refl (negsuc a) = le-leb a a (omega arith)
