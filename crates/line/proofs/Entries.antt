-- The text of a row of entries, put in one by one, and how long it is at most. Assumes nothing.
use mathlib.Core.Path.{◌≡◌, refl, sym, ap, ◌∙◌}
use mathlib.Core.List.{List, [], ◌∷◌, ◌++◌, append_assoc, append-nil}
use Prim.Native.Nat.{ℕ, zero, suc, ◌+◌, ◌*◌, ◌≤◌}
use native.Mathlib.Nat.{mul-suc}
use native.Mathlib.Numerals.{add-one}
use native.Mathlib.Omega.{arith}
use lib.ListN.{length, get_or, take, length-append}
use lib.IntN.{ℤ, pos, negsuc, nat_abs}
use lib.Seq.{length-take-le}
use Rattle.rules.specs.Words.{joined}
use Rattle.rules.specs.Trace.{signed, entries_text}
use Rattle.text.proofs.Texts.{put_after}
use Rattle.text.proofs.Digits.{length_decimal}

-- an entry after its space
entries_cons : (entry : ℕ → List ℕ) (j count : ℕ) → entries_text entry j (suc count) ≡ 32 ∷ (entry j ++ entries_text entry (suc j) count)
unfolding entries_text
entries_cons entry j count = refl

entries_later : (entry : ℕ → List ℕ) (j count : ℕ) → entries_text entry (suc j) count ≡ entries_text (λ i. entry (suc i)) j count
unfolding entries_text
entries_later entry j zero = refl
entries_later entry j (suc count) = ap (λ (l : List ℕ). 32 ∷ (entry (suc j) ++ l)) (entries_later entry (suc j) count)

module _ {A : Type 0} (spell : A → List ℕ) where
  abbrev pub spaced : A → List ℕ
  spaced x = 32 ∷ spell x

  -- the first so many of a row
  pub entries_row : (row : List A) (d : A) (count : ℕ) → count ≤ length row
      → joined spaced (take count row) ≡ entries_text (λ j. spell (get_or row j d)) 0 count
  unfolding joined entries_text
  entries_row row d zero within = refl
  entries_row [] d (suc count) within = absurd (omega arith)
  entries_row (x ∷ row) d (suc count) within =
      ap (λ (l : List ℕ). 32 ∷ (spell x ++ l))
      (entries_row row d count (omega arith) ∙ sym (entries_later (λ j. spell (get_or (x ∷ row) j d)) 0 count))

  joined_more : (xs : List A) (x : A) → joined spaced (xs ++ (x ∷ [])) ≡ joined spaced xs ++ spaced x
  unfolding joined
  joined_more [] x = append-nil (spaced x)
  joined_more (y ∷ xs) x = ap (λ (l : List ℕ). spaced y ++ l) (joined_more xs x) ∙ sym (append_assoc (spaced y) (joined spaced xs) (spaced x))

  -- a text with these entries after others, in so much room, each of at most so many bytes
  pub record Put (size most : ℕ) (first : List ℕ) (xs : List A) (text : List ℕ) : Type 0 where
    pub is : text ≡ take size (first ++ joined spaced xs)
    pub short : length (joined spaced xs) ≤ most * length xs

  pub put_none : (size most : ℕ) (first : List ℕ) → take size first ≡ first → Put size most first [] first
  unfolding joined
  put_none size most first whole = record { is = sym whole ∙ ap (take size) (sym (append-nil first)); short = omega arith }

  pub put_more : (size most : ℕ) (first : List ℕ) (xs : List A) (x : A) {before after : List ℕ} → Put size most first xs before
      → after ≡ take size (take size (before ++ (32 ∷ [])) ++ spell x) → length (spell x) + 1 ≤ most
      → Put size most first (xs ++ (x ∷ [])) after
  put_more size most first xs x so_far then fits =
      let more : most * (length xs + 1) ≡ most * length xs + most = rw add-one (mul-suc most (length xs)) in
      let short = so_far.short in
      record {
        is =
            put_after size first (joined spaced xs ++ (32 ∷ [])) (spell x) (put_after size first (joined spaced xs) (32 ∷ []) so_far.is refl) then
            ∙ rw (joined_more xs x, append_assoc);
        short = rw (joined_more xs x, length-append (joined spaced xs) (spaced x), length-append xs (x ∷ []), more) (omega arith);
      }

  -- of the first entries of a row
  pub put_row : (size most : ℕ) (first : List ℕ) (row : List A) (d : A) (count : ℕ) {xs : List A} {text : List ℕ} → Put size most first xs text
      → xs ≡ take count row → count ≤ length row
      → (text ≡ take size (first ++ entries_text (λ j. spell (get_or row j d)) 0 count))
      × (length (entries_text (λ j. spell (get_or row j d)) 0 count) ≤ most * count)
  put_row size most first row d count put is within =
      let same = sym (entries_row row d count within) in
      let all : length (take count row) ≡ count = length-take-le count row within in
      (rw (same, ← is) put.is, rw same (rw all at (rw is at put.short)))

-- a priority takes six bytes at most
pub length_signed : (p : ℤ) → nat_abs p ≤ 32768 → length (signed p) ≤ 6
length_signed (pos a) small = let few = length_decimal 4 a (omega arith) in omega arith
length_signed (negsuc a) small = let few = length_decimal 4 (suc a) (omega arith) in omega arith
