-- The bytes of a buffer into which some were put. Assumes nothing.
use mathlib.Core.Path.{◌≡◌, ap, ◌∙◌}
use mathlib.Core.List.{List, ◌++◌}
use Prim.Native.Nat.{ℕ, ◌+◌, ◌-◌, ◌≤◌, ◌<◌}
use native.Mathlib.Omega.{arith}
use lib.ListN.{length, get_or, take, drop, get_or-append}
use lib.Seq.{get_or-append-add, get_or-take, get_or-drop, length-take-le}
use Rattle.rules.specs.Words.{written}

module _ (buffer : List ℕ) (at : ℕ) (bytes : List ℕ) (fits : at + length bytes ≤ length buffer) where
  -- a byte that was put in
  pub get_or_put : (i : ℕ) → i < length bytes → get_or (written buffer at bytes) (at + i) 0 ≡ get_or bytes i 0
  unfolding written
  get_or_put i l =
      let front : length (take at buffer) ≡ at = length-take-le at buffer (omega arith) in
      let e : get_or (take at buffer ++ (bytes ++ drop (at + length bytes) buffer)) (length (take at buffer) + i) 0 ≡ get_or (bytes ++ drop (at + length bytes) buffer) i 0 =
      get_or-append-add (take at buffer) _ i 0 in
      rw front at e ∙ get_or-append bytes (drop (at + length bytes) buffer) 0 i l

  -- a byte before them, and one behind them
  pub get_or_before : (i : ℕ) → i < at → get_or (written buffer at bytes) i 0 ≡ get_or buffer i 0
  unfolding written
  get_or_before i l =
      let front : length (take at buffer) ≡ at = length-take-le at buffer (omega arith) in
      get_or-append (take at buffer) _ 0 i (rw front l) ∙ get_or-take at buffer i 0 l

  pub get_or_behind : (i : ℕ) → at + length bytes ≤ i → get_or (written buffer at bytes) i 0 ≡ get_or buffer i 0
  unfolding written
  get_or_behind i l =
      let front : length (take at buffer) ≡ at = length-take-le at buffer (omega arith) in
      let e : i ≡ length (take at buffer) + (length bytes + (i - (at + length bytes))) = rw front (omega arith) in
      let f : (at + length bytes) + (i - (at + length bytes)) ≡ i = omega arith in
      ap (λ (k : ℕ). get_or (take at buffer ++ (bytes ++ drop (at + length bytes) buffer)) k 0) e
      ∙ rw (get_or-append-add, get_or-append-add, get_or-drop, f)
