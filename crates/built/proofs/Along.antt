-- Lists whose entries stand at places, one after the other: what holds of each entry at its place. Assumes nothing.
use mathlib.Core.List.{List, [], ◌∷◌, ◌++◌}
use Prim.Native.Nat.{ℕ, zero, suc, ◌+◌, ◌≤◌, ◌<◌}
use native.Mathlib.Nat.{add-zero, not-suc-le-zero, le_of_suc-le-suc}
use native.Mathlib.Omega.{arith}
use mathlib.Core.Path.{◌≡◌}
use lib.ListN.{length, get_or}
use Rattle.rules.specs.Words.{values}

module _ {A : Type 0} where
  -- it holds of each of the entries, the first of which stands at the place p
  abbrev pub Along : (ℕ → A → Type 0) → ℕ → List A → Type 0
  Along P p [] = Unit {0}
  Along P p (x ∷ xs) = P p x × Along P (suc p) xs

  -- it holds of each of them, wherever they stand
  abbrev pub All : (A → Type 0) → List A → Type 0
  All P [] = Unit {0}
  All P (x ∷ xs) = P x × All P xs

  pub all_left : (P : A → Type 0) (a b : List A) → All P (a ++ b) → All P a
  all_left P [] b h = tt
  all_left P (x ∷ a) b h = (h.0, all_left P a b h.1)

  pub all_right : (P : A → Type 0) (a b : List A) → All P (a ++ b) → All P b
  all_right P [] b h = h
  all_right P (x ∷ a) b h = all_right P a b h.1

  pub all_values : (P : A → Type 0) (f : ℕ → A) (n : ℕ) → ((i : ℕ) → i < n → P (f i)) → All P (values f n)
  unfolding values
  all_values P f zero h = tt
  all_values P f (suc n) h = (h 0 (omega arith), all_values P (λ i. f (suc i)) n (λ i l. h (suc i) (omega arith)))

  module _ (P : ℕ → A → Type 0) where
    pub along_left : (p : ℕ) (a b : List A) → Along P p (a ++ b) → Along P p a
    along_left p [] b h = tt
    along_left p (x ∷ a) b h = (h.0, along_left (suc p) a b h.1)

    pub along_right : (p : ℕ) (a b : List A) → Along P p (a ++ b) → Along P (p + length a) b
    along_right p [] b h = rw (add-zero p) h
    along_right p (x ∷ a) b h =
        let e : p + suc (length a) ≡ suc p + length a = omega arith in
        rw e (along_right (suc p) a b h.1)

    pub along_join : (p : ℕ) (a b : List A) → Along P p a → Along P (p + length a) b → Along P p (a ++ b)
    along_join p [] b h k = rw (add-zero p) at k
    along_join p (x ∷ a) b h k =
        let e : p + suc (length a) ≡ suc p + length a = omega arith in
        (h.0, along_join (suc p) a b h.1 (rw e at k))

    pub along_at : (p : ℕ) (xs : List A) → Along P p xs → (i : ℕ) (d : A) → i < length xs → P (p + i) (get_or xs i d)
    along_at p [] h i d l = absurd (not-suc-le-zero l)
    along_at p (x ∷ xs) h zero d l = rw (add-zero p) h.0
    along_at p (x ∷ xs) h (suc i) d l =
        let e : p + suc i ≡ suc p + i = omega arith in
        rw e (along_at (suc p) xs h.1 i d (le_of_suc-le-suc l))

    pub along_all : (p : ℕ) (xs : List A) (d : A) → ((i : ℕ) → i < length xs → P (p + i) (get_or xs i d)) → Along P p xs
    along_all p [] d h = tt
    along_all p (x ∷ xs) d h = (
      rw (add-zero p) at (h 0 (omega arith)),
      along_all (suc p) xs d (λ i l. let e : p + suc i ≡ suc p + i = omega arith in rw e at (h (suc i) (omega arith))),
    )

  -- what follows from it at the entries' places
  pub along_from : (P Q : ℕ → A → Type 0) (p : ℕ) (xs : List A) → ((q : ℕ) (x : A) → p ≤ q → q < p + length xs → P q x → Q q x)
      → Along P p xs → Along Q p xs
  along_from P Q p [] f h = tt
  along_from P Q p (x ∷ xs) f h = (
    f p x (omega arith) (omega arith) h.0,
    along_from P Q (suc p) xs (λ q y l k. f q y (omega arith) (omega arith)) h.1,
  )
