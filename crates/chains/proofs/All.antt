-- What `all` answers, of the numbers of a range and of the entries of a row, as the rules' `each` says it. Assumes nothing.
use Rattle.std.proofs.Common.{◌≡◌, refl, sym, ◌∙◌, ap, ℕ, zero, suc, ◌+◌, ◌-◌, ◌<◌, Bool, true, false, List, length, get_or}
use Rattle.std.specs.Bool.{MatchBool}
use Rattle.std.specs.List.{AllWithin, HoldsAt, list_all, range_with_len}
use Rattle.std.specs.declared.ops.Range.{Range}
use denote.Param.Members.{Mut, Called}
use Rattle.std.specs.Iterator.{ChecksAll}
use Rattle.std.proofs.iter.Yields.{nat_range_steps}
use native.Mathlib.Nat.{zero-add}
use native.Mathlib.Omega.{arith}
use Rattle.std.proofs.lemmas.Iterator.{YieldsList-from_range}
use Rattle.std.proofs.lemmas.Iterator.Search.{all_from_yields_List}
use Rattle.rules.specs.Words.{each}
use Rattle.laws.proofs.Places.{each_all, each_not, each_same}

-- the library's `all` of the numbers from one on, and the rules'
all_from : (p : ℕ → Bool) (start n : ℕ) → list_all p (range_with_len start n) ≡ each (λ i. p (start + i)) n
unfolding each
all_from p start zero = refl
all_from p start (suc n) =
    let rest : list_all p (range_with_len (start + 1) n) ≡ each (λ i. p (start + suc i)) n =
    all_from p (start + 1) n ∙ each_same _ _ n (λ i l. ap p (omega arith)) in
    let here : p (start + 0) ≡ p start = ap p (omega arith) in
    rw (here, rest)

-- over the numbers from one on below another, of a test that computes p
pub each_from_range : {F : Type 0} {g : Mut F (ℕ × Unit {0}) Bool} (s u : Range ℕ) (f : F) (r : Bool) (p : ℕ → Bool) (start end : ℕ)
    → s ≡ record { start = start; end = end } → ChecksAll nat_range_steps g s f r u
    → ((x : ℕ) (b : Bool) (q : F) → Called g f (x, tt) b q → (q ≡ f) × (b ≡ p x))
    → r ≡ each (λ i. p (start + i)) (end - start)
each_from_range s u f r p start end is ran calls =
    all_from_yields_List p u f r ran (YieldsList-from_range start end (end - start) is refl) calls ∙ all_from p start (end - start)

-- over the numbers below one
pub each_from_below : {F : Type 0} {g : Mut F (ℕ × Unit {0}) Bool} (s u : Range ℕ) (f : F) (r : Bool) (p : ℕ → Bool) (n : ℕ)
    → s ≡ record { start = 0; end = n } → ChecksAll nat_range_steps g s f r u
    → ((x : ℕ) (b : Bool) (q : F) → Called g f (x, tt) b q → (q ≡ f) × (b ≡ p x))
    → r ≡ each p n
each_from_below s u f r p n is ran calls =
    let whole : n - 0 ≡ n = omega arith in
    each_from_range s u f r p 0 n is ran calls ∙ ap (each (λ i. p (0 + i))) whole ∙ each_same (λ i. p (0 + i)) p n (λ i l. ap p (zero-add i))

-- over the entries of a row
pub each_from_row : (r : Bool) (p : ℕ → Bool) (xs : List ℕ)
    → MatchBool r (AllWithin (λ x. p x ≡ true) xs 0 (length xs)) ((k : ℕ) × (k < length xs) × HoldsAt (λ x. p x ≡ false) xs k)
    → r ≡ each (λ j. p (get_or xs j 0)) (length xs)
each_from_row true p xs h = sym (each_all _ (length xs) (λ k l. h k 0 (omega arith) l))
each_from_row false p xs (k, l, off) = sym (each_not _ (length xs) k l (off 0))
