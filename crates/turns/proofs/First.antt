-- The lowest-numbered of the ready stations of lowest priority, found from station 0 on. Assumes nothing.
use mathlib.Core.Path.{◌≡◌, refl, sym, ◌∙◌}
use Rattle.std.specs.Prelude.{Option, Some, None, option_map, unwrap_or, is_some, ltb}
use mathlib.Core.Bool.{Bool, true, false, ◌&&◌, ◌||◌, false≢true}
use Prim.Native.Nat.{ℕ, ◌+◌, ◌<◌}
use native.Mathlib.Omega.{arith}
use borrow.Author.Count.{below_none, below_more}
use borrow.Author.Tests.{lt-ltb, le-ltb}
use lib.IntN.{ℤ}
use lib.Signed.{le_z, lt_z}
use Rattle.rules.specs.Words.{first}
use Rattle.rules.specs.Turn.{lowest_of}
use Rattle.laws.proofs.Choice.{by_test, both, split, not_both_left, not_both_right}
use Rattle.laws.proofs.Places.{first_is, first_none}
use Rattle.laws.proofs.Lowest.{lowest_of_means}
use Rattle.fair.proofs.Order.{le_z_refl, le_z_trans, le_z_other, le_z_not}

module _ (ready : ℕ → Bool) (z : ℕ → ℤ) where
  -- of the stations below j one is ready, with the lowest priority of these, and those numbered below it that are ready have a higher one
  pub record Least (j found : ℕ) : Type 0 where
    below : found < j
    enabled : ready found ≡ true
    lowest : (k : ℕ) → k < j → ready k ≡ true → le_z (z found) (z k) ≡ true
    numbered : (k : ℕ) → k < found → ready k ≡ true → le_z (z k) (z found) ≡ false

  -- or none of them is ready, and none is found
  abbrev pub Sought : ℕ → Option ℕ → Type 0
  Sought j None = (k : ℕ) → k < j → ready k ≡ false
  Sought j (Some found) = Least j found

  -- station j comes before the one found
  abbrev pub before : ℕ → Option ℕ → Bool
  before j found = unwrap_or (option_map (λ i. lt_z (z j) (z i)) found) true

  pub sought_none : Sought 0 None
  sought_none = below_none _

  pub sought_kept : (j : ℕ) (found : Option ℕ) → Sought j found → (ready j && before j found) ≡ false → Sought (j + 1) found
  sought_kept j None none off = below_more _ j none (by_test (ready j) (λ r. absurd (false≢true (sym off ∙ rw r))) (λ r. r))
  sought_kept j (Some found) h off =
      record {
        below = omega (arith, h.below);
        enabled = h.enabled;
        lowest = below_more _ j h.lowest (λ r.
            by_test (lt_z (z j) (z found)) (λ e. absurd (false≢true (sym off ∙ rw (r, e)))) (λ e. le_z_not (z found) (z j) ∙ rw e));
        numbered = h.numbered;
      }

  pub sought_taken : (j : ℕ) (found : Option ℕ) → Sought j found → (ready j && before j found) ≡ true → Sought (j + 1) (Some j)
  sought_taken j None none on =
      record {
        below = omega arith;
        enabled = (split (ready j) true on).0;
        lowest = below_more _ j (λ k b r. absurd (false≢true (sym (none k b) ∙ r))) (λ r. le_z_refl (z j));
        numbered = λ k b r. absurd (false≢true (sym (none k b) ∙ r));
      }
  sought_taken j (Some found) h on =
      let (r, comes) = split (ready j) (lt_z (z j) (z found)) on in
      let higher : le_z (z found) (z j) ≡ false = le_z_not (z found) (z j) ∙ rw comes in
      record {
        below = omega arith;
        enabled = r;
        lowest = below_more _ j (λ k b q. le_z_trans (z j) (z found) (z k) (le_z_other (z found) (z j) higher) (h.lowest k b q)) (λ q. le_z_refl (z j));
        numbered = λ k b q.
            by_test (le_z (z k) (z j))
            (λ e. absurd (false≢true (sym higher ∙ le_z_trans (z found) (z k) (z j) (h.lowest k b q) e)))
            (λ e. e);
      }

  pub sought_all : (n : ℕ) (found : Option ℕ) → Sought n found
      → (unwrap_or found n ≡ first (λ i. ready i && lowest_of n ready z i) n) × (is_some found ≡ ltb (unwrap_or found n) n)
  sought_all n None none = (
    sym (first_none (λ i. ready i && lowest_of n ready z i) n (λ k l. not_both_left (ready k) (lowest_of n ready z k) (none k l))),
    sym (le-ltb n n (omega arith)),
  )
  sought_all n (Some found) h = (
    sym (first_is (λ i. ready i && lowest_of n ready z i) n found h.below (both h.enabled ((lowest_of_means n ready z found).1 h.lowest))
        (λ k l. by_test (ready k)
        (λ r. not_both_right (ready k) (lowest_of n ready z k)
        (by_test (lowest_of n ready z k)
        (λ e. absurd (false≢true (sym (h.numbered k l r) ∙ (lowest_of_means n ready z k).0 e found h.below h.enabled)))
        (λ e. e)))
        (λ r. not_both_left (ready k) (lowest_of n ready z k) r))),
    sym (lt-ltb found n h.below),
  )
