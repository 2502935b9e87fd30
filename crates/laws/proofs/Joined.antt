-- Entries that are spelled by as many bytes each, one after another: how long they are together, and byte r of entry i. Assumes nothing.
use mathlib.Core.Path.{◌≡◌}
use mathlib.Core.List.{List, [], ◌∷◌}
use Prim.Native.Nat.{ℕ, zero, suc, ◌+◌, ◌*◌, ◌<◌}
use native.Mathlib.Nat.{not-suc-le-zero, le_of_suc-le-suc}
use native.Mathlib.Omega.{arith}
use lib.ListN.{length, get_or, length-append, get_or-append}
use lib.Seq.{get_or-append-add}
use Rattle.rules.specs.Words.{joined}

module _ {A : Type 0} (spell : A → List ℕ) (w : ℕ) (long : (x : A) → length (spell x) ≡ w) where
  pub length_joined : (xs : List A) → length (joined spell xs) ≡ w * length xs
  unfolding joined
  length_joined [] = omega arith
  length_joined (x ∷ xs) =
      let more = length_joined xs in
      let each = long x in
      let e : w * suc (length xs) ≡ w + w * length xs = omega arith in
      rw (length-append, more, each, e)

  pub get_or_joined : (xs : List A) (i r : ℕ) (d : A) → i < length xs → r < w
      → get_or (joined spell xs) (w * i + r) 0 ≡ get_or (spell (get_or xs i d)) r 0
  unfolding joined
  get_or_joined [] i r d h l = absurd (not-suc-le-zero h)
  get_or_joined (x ∷ xs) zero r d h l =
      let e : w * 0 + r ≡ r = omega arith in
      rw e (get_or-append (spell x) (joined spell xs) 0 r (rw (long x) l))
  get_or_joined (x ∷ xs) (suc i) r d h l =
      let e : w * suc i + r ≡ length (spell x) + (w * i + r) = rw (long x) (omega arith) in
      rw (e, get_or-append-add) (get_or_joined xs i r d (le_of_suc-le-suc h) l)
