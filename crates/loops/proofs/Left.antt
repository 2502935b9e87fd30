-- What a file still has where so many of its records were read, eight bytes each. Assumes nothing.
use mathlib.Core.Path.{◌≡◌, refl, sym, ap, ◌∙◌}
use mathlib.Core.List.{List, ◌++◌}
use Prim.Native.Nat.{ℕ, ◌+◌, ◌-◌, ◌*◌, ◌≤◌}
use native.Mathlib.Omega.{arith}
use lib.ListN.{length, length-append, get_or, get_or-append, drop, length-drop}
use Rattle.std.proofs.Math.Seq.{drop-append_seam}
use Rattle.std.proofs.lemmas.List.{drop-drop, get_or-drop}
use Rattle.rules.specs.Records.{record_at, record_from}

pub record Left (file : List ℕ) (n : ℕ) (rest : List ℕ) : Type 0 where
  pub within : 8 * n ≤ length file
  pub is : rest ≡ drop (8 * n) file

pub left_all : (file : List ℕ) → Left file 0 file
left_all file = record { within = omega arith; is = refl }

-- one record more is read, and its kind is its first byte
module _ (file : List ℕ) (n : ℕ) (rest after bytes : List ℕ) (left : Left file n rest) (cut : rest ≡ bytes ++ after) (eight : length bytes ≡ 8) where
  pub left_more : (m : ℕ) → m ≡ n + 1 → Left file m after
  left_more m e =
      let long : length rest ≡ length file - 8 * n = ap length left.is ∙ length-drop (8 * n) file in
      let parts : length rest ≡ 8 + length after = ap length cut ∙ simp (length-append, eight) in
      let at : 8 * m ≡ 8 * n + 8 = omega arith in
      record {
        within = omega (arith, left.within);
        is = sym (rw (at, ← drop-drop 8 (8 * n) file, ← left.is, cut, ← eight) (drop-append_seam bytes after));
      }

  pub kind_read : get_or bytes 0 0 ≡ (record_at file n).kind
  unfolding record_from
  kind_read =
      let at : 8 * n + 0 ≡ 8 * n = omega arith in
      sym (get_or-append bytes after 0 0 (omega arith))
      ∙ ap (λ (l : List ℕ). get_or l 0 0) (sym cut ∙ left.is)
      ∙ get_or-drop (8 * n) file 0 0
      ∙ ap (λ (i : ℕ). get_or file i 0) at
