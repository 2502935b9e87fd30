-- FAIR leaves a station to pick wherever one is ready: of finitely many numbers one is lowest. Assumes nothing.
use mathlib.Core.Path.{◌≡◌, sym, ◌∙◌}
use mathlib.Core.Logic.{◌⊎◌, inl, inr, ⊎_elim}
use mathlib.Core.Bool.{Bool, true, false, false≢true}
use Prim.Native.Nat.{ℕ, zero, suc, ◌<◌, zero-le}
use native.Mathlib.Nat.{not-suc-le-zero, le_of_suc-le-suc, eq-or-lt_of_le}
use native.Mathlib.Omega.{arith}
use lib.IntN.{ℤ}
use lib.Signed.{le_z}
use Rattle.rules.specs.State.{priority}
use Rattle.rules.specs.Ready.{ready}
use Rattle.rules.specs.Calls.{ruled}
use Rattle.laws.proofs.Choice.{by_test}
use Rattle.laws.proofs.Lowest.{lowest_means}
use Rattle.fair.specs.Fair.{Sch}
use Rattle.fair.specs.Taken.{NoDeadlock, StepThere}
use Rattle.fair.proofs.Order.{le_z_refl, le_z_trans, le_z_other}
use Rattle.fair.proofs.Taken.{step_taken}

-- what holds below n and at n holds below n + 1
one_more : (P : ℕ → Type 0) (n : ℕ) → ((j : ℕ) → j < n → P j) → P n → (j : ℕ) → j < suc n → P j
one_more P n below at j l = ⊎_elim (λ e. rw e at) (below j) (eq-or-lt_of_le (le_of_suc-le-suc l))

module _ (ready : ℕ → Bool) (z : ℕ → ℤ) where
  -- the station that could be picked still can, or the one just come can
  stays : (n i : ℕ) → Sch n ready z i → (ready n ≡ true → le_z (z i) (z n) ≡ true) → Sch (suc n) ready z i
  stays n i c h =
      record {
        station = omega (arith, c.station);
        enabled = c.enabled;
        lowest = one_more (λ k. ready k ≡ true → le_z (z i) (z k) ≡ true) n c.lowest h;
      }

  comes : (n : ℕ) → ready n ≡ true → ((k : ℕ) → k < n → ready k ≡ true → le_z (z n) (z k) ≡ true) → Sch (suc n) ready z n
  comes n e h =
      record {
        station = omega arith;
        enabled = e;
        lowest = one_more (λ k. ready k ≡ true → le_z (z n) (z k) ≡ true) n h (λ r. le_z_refl (z n));
      }

  -- among the stations below n none is ready, or one can be picked
  abbrev Choice : ℕ → Type 0
  Choice n = ((j : ℕ) → j < n → ready j ≡ false) ⊎ ((i : ℕ) × Sch n ready z i)

  choice_more : (n : ℕ) → Choice n → Choice (suc n)
  choice_more n (inl none) =
      by_test (ready n)
      (λ e. inr (n, comes n e (λ k l r. absurd (false≢true (sym (none k l) ∙ r)))))
      (λ e. inl (one_more (λ j. ready j ≡ false) n none e))
  choice_more n (inr (i, c)) =
      by_test (le_z (z i) (z n))
      (λ e. inr (i, stays n i c (λ r. e)))
      (λ e. by_test (ready n)
      (λ r. inr (n, comes n r (λ k l q. le_z_trans (z n) (z i) (z k) (le_z_other (z i) (z n) e) (c.lowest k l q))))
      (λ r. inr (i, stays n i c (λ q. absurd (false≢true (sym r ∙ q))))))

  choice : (n : ℕ) → Choice n
  choice zero = inl (λ j l. absurd (not-suc-le-zero l))
  choice (suc n) = choice_more n (choice n)

  picked : (n j : ℕ) → j < n → ready j ≡ true → (i : ℕ) × Sch n ready z i
  picked n j l r = ⊎_elim (λ none. absurd (false≢true (sym (none j l) ∙ r))) (λ c. c) (choice n)

pub no_deadlock : NoDeadlock
no_deadlock list s j l r =
    let (i, c) = picked (ready list s) (priority s) s.n j l r in
    (i, c.station, c.enabled, (lowest_means list s i).1 c.lowest)

pub step_there : StepThere ruled
step_there list s lent can j l r =
    let (i, c) = picked (ready list s) (priority s) s.n j l r in
    (i, (step_taken list s lent (record { station = i; reset = 0 })).1 (can, c, zero-le))
