-- Start records written to a log, one after another. Assumes nothing.
use Prim.Native.Nat.{ℕ, suc, ◌+◌, ◌*◌, ◌≤◌, ◌<◌}
use mathlib.Core.Path.{◌≡◌, refl}
use mathlib.Core.List.{List, [], ◌∷◌, ◌++◌}
use native.Mathlib.Nat.{add-zero, zero-add, add-suc, suc-add}
use native.Mathlib.Numerals.{add-one}
use native.Mathlib.Omega.{arith}
use lib.ListN.{length, get_or, take, set, length-append}
use lib.Seq.{sets, take-suc, length-take-le}
use Rattle.rules.specs.Words.{values, written}
use Rattle.rules.specs.Records.{pick_at}
use Rattle.rules.specs.Start.{start_records}
use Rattle.laws.proofs.Written.{length_starts, resets_behind, written_sets}

-- bytes after bytes
sets_append : (log : List ℕ) (at : ℕ) (bytes more : List ℕ) → sets log at (bytes ++ more) ≡ sets (sets log at bytes) (at + length bytes) more
sets_append log at [] more = rw add-zero
sets_append log at (x ∷ bytes) more = rw (add-suc, ← suc-add) (sets_append (set log at x) (suc at) bytes more)

-- one start record more
start_records_snoc : (j : ℕ) (resets : List ℕ) (reset : ℕ)
    → start_records j (resets ++ (reset ∷ [])) ≡ start_records j resets ++ ((j + length resets) ∷ reset ∷ [])
unfolding start_records
start_records_snoc j [] reset = rw add-zero
start_records_snoc j (x ∷ resets) reset = rw (add-suc, ← suc-add, start_records_snoc (suc j) resets reset)

-- one turn of a loop that writes the start records
pub starts_more : (log resets : List ℕ) (j : ℕ) → j < length resets → 2 * length resets ≤ length log
    → set (set (written log 0 (start_records 0 (take j resets))) (2 * j) j) (2 * j + 1) (get_or resets j 0)
    ≡ written log 0 (start_records 0 (take (j + 1) resets))
starts_more log resets j within room =
    let before = start_records 0 (take j resets) in
    let so_far : length before ≡ 2 * j = rw (length_starts 0 (take j resets), length-take-le j resets (omega arith)) in
    let next : start_records 0 (take (j + 1) resets) ≡ before ++ (j ∷ get_or resets j 0 ∷ []) =
    rw (add-one, take-suc resets j 0 within, start_records_snoc, length-take-le j resets (omega arith), zero-add) in
    rw (
      next,
      written_sets log 0 before (omega arith),
      written_sets log 0 (before ++ (j ∷ get_or resets j 0 ∷ [])) (simp (length-append, so_far) (omega arith)),
      sets_append,
      zero-add,
      so_far,
      add-one,
    )

-- the resets are read back from the start records
pub resets_back : (log resets : List ℕ)
    → values (λ j. (pick_at (written log 0 (start_records 0 resets)) j).reset) (length resets) ≡ resets
unfolding written
resets_back log resets = resets_behind resets _ (length resets) refl
