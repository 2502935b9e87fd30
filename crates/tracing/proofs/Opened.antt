-- Where a trace begins, by whether its start file has a first byte. Assumes nothing.
use mathlib.Core.Path.{◌≡◌, refl}
use mathlib.Core.List.{List, [], ◌∷◌}
use Prim.Native.Nat.{ℕ, ◌-◌, ◌*◌}
use native.Mathlib.Omega.{arith}
use lib.ListN.{length, get_or, take, drop}
use lib.Seq.{take_all}
use Rattle.rules.specs.Names.{RESET}
use Rattle.rules.specs.Start.{start}
use Rattle.tracing.specs.Tracing.{ending, opened_by, opened_list}
use Rattle.rules.specs.Lent.{Lent}

module _ (count : ℕ) (list : List ℕ) where
  -- with no B
  pub opened_none : (starts : List ℕ) (lent : Lent) → length starts ≡ 0
      → opened_list count list starts lent ≡ record { tracing = ending RESET; list = list; lent = lent }
  unfolding opened_list
  opened_none [] lent none = refl
  opened_none (b ∷ resets) lent none = absurd (omega arith)

  -- with B, the first byte, and the resets after it
  pub opened_some : (starts : List ℕ) (lent : Lent) → (length starts ≡ 0 → ⊥)
      → opened_list count list starts lent ≡ opened_by count list (start (take (16 * count) list) (get_or starts 0 0) (take (length starts - 1) (drop 1 starts)) lent)
  unfolding opened_list
  opened_some [] lent some = absurd (some refl)
  opened_some (b ∷ resets) lent some = rw (take_all (length (b ∷ resets) - 1) resets (omega arith))
