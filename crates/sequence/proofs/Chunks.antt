-- The records of a file, eight bytes each, and what a chain over them answers. Assumes nothing.
use Rattle.std.specs.List.{filter, position_or_len}
use Rattle.std.specs.Simd.{first_chunks}
use mathlib.Core.Path.{◌≡◌, refl, ap, ◌∙◌}
use mathlib.Core.Bool.{Bool}
use mathlib.Core.List.{List}
use Prim.Native.Nat.{ℕ, zero, suc, ◌+◌, ◌*◌, ◌<◌}
use native.Mathlib.Nat.{add_assoc, add-zero}
use native.Mathlib.Omega.{arith}
use lib.Dec.{lit<}
use lib.ListN.{length, get_or, take, drop}
use lib.Seq.{drop-drop}
use Rattle.std.proofs.lemmas.List.{get_or-drop, get_or-take}
use Rattle.rules.specs.Words.{first, tally}
use Rattle.rules.specs.Records.{record_from, record_at}
use Rattle.laws.proofs.Choice.{by_test}

-- the eight bytes of a record
abbrev pub chunk : List ℕ → ℕ → List ℕ
chunk file i = take 8 (drop (8 * i) file)

chunk_byte : (file : List ℕ) (i j : ℕ) → j < 8 → get_or (chunk file i) j 0 ≡ get_or file (8 * i + j) 0
chunk_byte file i j h = get_or-take 8 (drop (8 * i) file) j 0 h ∙ get_or-drop (8 * i) file j 0

pub kind_of_chunk : (file : List ℕ) (i : ℕ) → get_or (chunk file i) 0 0 ≡ get_or file (8 * i) 0
kind_of_chunk file i = chunk_byte file i 0 (lit< tt) ∙ rw add-zero

pub record_of_chunk : (file : List ℕ) (i : ℕ) → record_from (chunk file i) 0 ≡ record_at file i
unfolding record_from
record_of_chunk file i =
    rw (
      kind_of_chunk file i,
      chunk_byte file i 1 (lit< tt),
      chunk_byte file i 2 (lit< tt),
      chunk_byte file i 3 (lit< tt),
      chunk_byte file i 4 (lit< tt),
      chunk_byte file i 5 (lit< tt),
      chunk_byte file i 6 (lit< tt),
      chunk_byte file i 7 (lit< tt),
    )
    (simp add_assoc)

module _ (test : List ℕ → Bool) where
  -- the test of each chunk is one of its place
  abbrev Tells : List ℕ → ℕ → (ℕ → Bool) → Type 0
  Tells file n f = (i : ℕ) → i < n → test (chunk file i) ≡ f i

  tells_rest : (file : List ℕ) (n : ℕ) (f : ℕ → Bool) → Tells file (suc n) f → Tells (drop 8 file) n (λ i. f (suc i))
  tells_rest file n f h i l =
      let e : 8 * suc i ≡ 8 + 8 * i = omega arith in
      ap (λ (s : List ℕ). test (take 8 s)) (drop-drop (8 * i) 8 file) ∙ rw e at (h (suc i) (omega arith))

  pub position_chunks : (file : List ℕ) (n : ℕ) (f : ℕ → Bool) → Tells file n f → position_or_len test (first_chunks 8 n file) ≡ first f n
  unfolding first
  position_chunks file zero f h = refl
  position_chunks file (suc n) f h =
      let here : test (take 8 file) ≡ f 0 = h 0 (omega arith) in
      let rest = position_chunks (drop 8 file) n (λ i. f (suc i)) (tells_rest file n f h) in
      by_test (f 0) (λ e. rw (here, e)) (λ e. rw (here, e, rest) (omega arith))

  pub count_chunks : (file : List ℕ) (n : ℕ) (f : ℕ → Bool) → Tells file n f → length (filter test (first_chunks 8 n file)) ≡ tally f n
  unfolding tally
  count_chunks file zero f h = refl
  count_chunks file (suc n) f h =
      let here : test (take 8 file) ≡ f 0 = h 0 (omega arith) in
      let rest = count_chunks (drop 8 file) n (λ i. f (suc i)) (tells_rest file n f h) in
      by_test (f 0) (λ e. rw (here, e, rest)) (λ e. rw (here, e, rest))
