-- A list whose first n entries are changed by their place. Assumes nothing.
use Rattle.std.specs.Prelude.{if◌then◌else◌}
use mathlib.Core.Path.{◌≡◌, refl, ap}
use mathlib.Core.List.{List, [], ◌∷◌}
use Prim.Native.Nat.{ℕ, zero, suc, ◌+◌, ◌≤◌, ◌<◌}
use native.Mathlib.Nat.{not-suc-le-zero, le_of_suc-le-suc}
use native.Mathlib.Numerals.{add-one}
use native.Mathlib.Omega.{arith}
use lib.Dec.{eqb, eqb-zero-suc, eqb-suc-zero, eqb-suc-suc}
use lib.ListN.{length, get_or, set}
use Rattle.rules.specs.Words.{changed}

module _ {A : Type 0} where
  pub length_changed : (f : ℕ → A → A) (n : ℕ) (xs : List A) → length (changed f n xs) ≡ length xs
  unfolding changed
  length_changed f zero xs = refl
  length_changed f (suc n) [] = refl
  length_changed f (suc n) (x ∷ xs) = ap suc (length_changed (λ i. f (suc i)) n xs)

  pub changed_at : (f : ℕ → A → A) (n : ℕ) (xs : List A) (j : ℕ) (d : A) → j < n → j < length xs
      → get_or (changed f n xs) j d ≡ f j (get_or xs j d)
  unfolding changed
  changed_at f zero xs j d l h = absurd (not-suc-le-zero l)
  changed_at f (suc n) [] j d l h = absurd (not-suc-le-zero h)
  changed_at f (suc n) (x ∷ xs) zero d l h = refl
  changed_at f (suc n) (x ∷ xs) (suc j) d l h =
      changed_at (λ i. f (suc i)) n xs j d (le_of_suc-le-suc l) (le_of_suc-le-suc h)

  pub changed_past : (f : ℕ → A → A) (n : ℕ) (xs : List A) (j : ℕ) (d : A) → n ≤ j → get_or (changed f n xs) j d ≡ get_or xs j d
  unfolding changed
  changed_past f zero xs j d l = refl
  changed_past f (suc n) [] j d l = refl
  changed_past f (suc n) (x ∷ xs) zero d l = absurd (not-suc-le-zero l)
  changed_past f (suc n) (x ∷ xs) (suc j) d l = changed_past (λ i. f (suc i)) n xs j d (le_of_suc-le-suc l)

  -- a changed entry has whatever its change gives it, and so does nothing, where the list is too short to have that entry
  pub changed_has : (P : A → Type 0) (f : ℕ → A → A) (n : ℕ) (xs : List A) (j : ℕ) (d : A) → j < n
      → P d → P (f j (get_or xs j d)) → P (get_or (changed f n xs) j d)
  unfolding changed
  changed_has P f zero xs j d l e h = absurd (not-suc-le-zero l)
  changed_has P f (suc n) [] j d l e h = e
  changed_has P f (suc n) (x ∷ xs) zero d l e h = h
  changed_has P f (suc n) (x ∷ xs) (suc j) d l e h = changed_has P (λ i. f (suc i)) n xs j d (le_of_suc-le-suc l) e h

  -- one entry more
  changed_suc : (f : ℕ → A → A) (n : ℕ) (xs : List A) (d : A) → set (changed f n xs) n (f n (get_or xs n d)) ≡ changed f (suc n) xs
  unfolding changed
  changed_suc f zero [] d = refl
  changed_suc f zero (x ∷ xs) d = refl
  changed_suc f (suc n) [] d = refl
  changed_suc f (suc n) (x ∷ xs) d = ap (λ (rest : List A). f 0 x ∷ rest) (changed_suc (λ i. f (suc i)) n xs d)

  -- the entry that is next is not changed yet
  pub changed_next : (f : ℕ → A → A) (n : ℕ) (xs : List A) (d : A) → get_or (changed f n xs) n d ≡ get_or xs n d
  changed_next f n xs d = changed_past f n xs n d (omega arith)

  -- one turn of a loop that changes the entries from the front on
  pub changed_turn : (f : ℕ → A → A) (xs ys : List A) (j : ℕ) (x d : A) → ys ≡ changed f j xs → x ≡ f j (get_or ys j d)
      → set ys j x ≡ changed f (j + 1) xs
  changed_turn f xs ys j x d so_far new = rw (new, so_far, changed_next) (rw add-one (changed_suc f j xs d))

  -- the changes need agree only below n, and on what is there
  pub changed_same : (f g : ℕ → A → A) (n : ℕ) (xs : List A) (d : A) → ((i : ℕ) → i < n → f i (get_or xs i d) ≡ g i (get_or xs i d))
      → changed f n xs ≡ changed g n xs
  unfolding changed
  changed_same f g zero xs d same = refl
  changed_same f g (suc n) [] d same = refl
  changed_same f g (suc n) (x ∷ xs) d same =
      rw (same 0 (omega arith), changed_same (λ i. f (suc i)) (λ i. g (suc i)) n xs d (λ i l. same (suc i) (omega arith)))

  -- the entries from n on need not be asked about where they would stay
  pub changed_fewer : (f g : ℕ → A → A) (n k : ℕ) (xs : List A) (d : A) → n ≤ k
      → ((i : ℕ) → i < n → f i (get_or xs i d) ≡ g i (get_or xs i d)) → ((i : ℕ) (x : A) → n ≤ i → f i x ≡ x)
      → changed f k xs ≡ changed g n xs
  unfolding changed
  changed_fewer f g zero zero xs d few same stay = refl
  changed_fewer f g zero (suc k) [] d few same stay = refl
  changed_fewer f g zero (suc k) (x ∷ xs) d few same stay =
      rw (
        stay 0 x (omega arith),
        changed_fewer (λ i. f (suc i)) g zero k xs d (omega arith) (λ i l. absurd (not-suc-le-zero l)) (λ i y l. stay (suc i) y (omega arith)),
      )
  changed_fewer f g (suc n) zero xs d few same stay = absurd (not-suc-le-zero few)
  changed_fewer f g (suc n) (suc k) [] d few same stay = refl
  changed_fewer f g (suc n) (suc k) (x ∷ xs) d few same stay =
      rw (
        same 0 (omega arith),
        changed_fewer (λ i. f (suc i)) (λ i. g (suc i)) n k xs d (omega arith) (λ i l. same (suc i) (omega arith)) (λ i y l. stay (suc i) y (omega arith)),
      )

  -- one of the changed entries set afterwards, as if that were its change
  pub changed_set : (f : ℕ → A → A) (n : ℕ) (xs : List A) (k : ℕ) (x : A) → k < n
      → set (changed f n xs) k x ≡ changed (λ i y. if eqb i k then x else f i y) n xs
  unfolding changed
  changed_set f zero xs k x l = absurd (not-suc-le-zero l)
  changed_set f (suc n) [] k x l = refl
  changed_set f (suc n) (y ∷ ys) zero x l = simp eqb-suc-zero
  changed_set f (suc n) (y ∷ ys) (suc k) x l =
      simp (eqb-zero-suc, eqb-suc-suc) (ap (λ (rest : List A). f 0 y ∷ rest) (changed_set (λ i. f (suc i)) n ys k x (le_of_suc-le-suc l)))
