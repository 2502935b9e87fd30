-- A text that grows byte by byte, as far as there is room. Assumes nothing.
use mathlib.Core.Path.{◌≡◌, refl, ◌∙◌, ap}
use mathlib.Core.List.{List, [], ◌∷◌, ◌++◌, append_assoc}
use Prim.Native.Nat.{ℕ, zero, suc, ◌+◌, ◌≤◌, ◌<◌}
use native.Mathlib.Numerals.{add-one}
use native.Mathlib.Omega.{arith}
use lib.ListN.{length, take, set, length-append, length-take}
use lib.Seq.{take_all, take_at, take-suc-set, length-take-le}

-- what a text has no room for stays out, whatever comes after it
take_again : (size : ℕ) (a b : List ℕ) → take size (take size a ++ b) ≡ take size (a ++ b)
take_again zero a b = refl
take_again (suc size) [] b = refl
take_again (suc size) (x ∷ a) b = ap (λ (l : List ℕ). x ∷ l) (take_again size a b)

module _ (size : ℕ) where
  -- bytes put after bytes
  pub put_after : {t u : List ℕ} (a b c : List ℕ) → t ≡ take size (a ++ b) → u ≡ take size (t ++ c) → u ≡ take size (a ++ (b ++ c))
  put_after a b c first then =
      rw (then, first, take_again size (a ++ b) c, append_assoc)

  -- four times
  pub put_four : (first a b c d : List ℕ) {t u v w : List ℕ}
      → t ≡ take size (first ++ a)
      → u ≡ take size (t ++ b)
      → v ≡ take size (u ++ c)
      → w ≡ take size (v ++ d)
      → w ≡ take size (first ++ (a ++ b ++ c ++ d))
  put_four first a b c d one two three four =
      put_after first (a ++ b ++ c) d (put_after first (a ++ b) c (put_after first a b one two) three) four

module _ (bytes : List ℕ) (len byte size : ℕ) (whole : length bytes ≡ size) where
  -- a byte for which there is room
  pub put_in : len < size → take (len + 1) (set bytes len byte) ≡ take size (take len bytes ++ (byte ∷ []))
  put_in room =
      let within : length (take len bytes ++ (byte ∷ [])) ≤ size = simp (length-append, length-take-le len bytes (omega arith)) (omega arith) in
      rw (add-one, take-suc-set bytes len byte (omega arith), take_all size _ within)

  -- a byte for which there is none
  pub put_full : size ≤ len → take len bytes ≡ take size (take len bytes ++ (byte ∷ []))
  put_full full = rw (take_all len bytes (omega arith), take_at bytes (byte ∷ []) size whole)

-- a text is no longer than its room
pub put_whole : (bytes : List ℕ) (len size : ℕ) → length bytes ≡ size → take size (take len bytes) ≡ take len bytes
put_whole bytes len size whole = take_all size (take len bytes) (simp length-take (omega arith))

-- a line put together, for which there is room
module _ (size : ℕ) (m ready turn priorities counts : List ℕ)
    (room : length m + length ready + length turn + length priorities + length counts + 3 ≤ size) where
  pub put_line : {t0 t1 t2 t3 t4 t5 t6 t7 t8 : List ℕ}
      → t0 ≡ []
      → t1 ≡ take size (t0 ++ m)
      → t2 ≡ take size (t1 ++ (32 ∷ []))
      → t3 ≡ take size (t2 ++ ready)
      → t4 ≡ take size (t3 ++ (32 ∷ []))
      → t5 ≡ take size (t4 ++ turn)
      → t6 ≡ take size (t5 ++ priorities)
      → t7 ≡ take size (t6 ++ counts)
      → t8 ≡ take size (t7 ++ (10 ∷ []))
      → t8 ≡ m ++ (32 ∷ ready) ++ (32 ∷ turn) ++ priorities ++ counts ++ (10 ∷ [])
  put_line e0 e1 e2 e3 e4 e5 e6 e7 e8 =
      let s : List ℕ = 32 ∷ [] in
      let a1 = rw e0 at e1 in
      let a2 = put_after size [] m s a1 e2 in
      let a3 = rw (append_assoc m s ready) at (put_after size [] (m ++ s) ready a2 e3) in
      let a4 = put_after size [] (m ++ (s ++ ready)) s a3 e4 in
      let a5 = rw (append_assoc (m ++ (s ++ ready)) s turn) at (put_after size [] (m ++ (s ++ ready) ++ s) turn a4 e5) in
      let a6 = put_after size [] (m ++ (s ++ ready) ++ (s ++ turn)) priorities a5 e6 in
      let a7 = put_after size [] (m ++ (s ++ ready) ++ (s ++ turn) ++ priorities) counts a6 e7 in
      let a8 = put_after size [] (m ++ (s ++ ready) ++ (s ++ turn) ++ priorities ++ counts) (10 ∷ []) a7 e8 in
      a8 ∙ take_all size _ (simp length-append (omega arith))
