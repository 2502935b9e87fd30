-- The records of a list, sixteen bytes each. Assumes nothing.
use Rattle.std.specs.Simd.{first_chunks}
use mathlib.Core.Path.{◌≡◌, refl, ap, ◌∙◌}
use mathlib.Core.List.{List}
use Prim.Native.Nat.{ℕ, zero, suc, ◌+◌, ◌*◌, ◌≤◌, ◌<◌, min}
use native.Mathlib.Omega.{arith}
use lib.ListN.{length, get_or, take, drop, length-drop}
use lib.Seq.{drop-drop}
use Rattle.rules.specs.Records.{list_record_at, list_count}
use Rattle.record.specs.View.{list_record_from}
use Rattle.record.proofs.Bytes.{taken, list_record_here}

chunk_at : (n : ℕ) (list : List ℕ) (p : ℕ) (d : List ℕ) → p < n → get_or (first_chunks 16 n list) p d ≡ take 16 (drop (16 * p) list)
chunk_at zero list p d h = absurd (omega arith)
chunk_at (suc n) list zero d h = refl
chunk_at (suc n) list (suc p) d h =
    let e : 16 + 16 * p ≡ 16 * suc p = omega arith in
    chunk_at n (drop 16 list) p d (omega arith) ∙ ap (take 16) (drop-drop (16 * p) 16 list ∙ ap (λ at. drop at list) e)

-- a record is what its chunk spells
pub record_of_chunk : (list : List ℕ) (p : ℕ) (d : List ℕ) → p < list_count list
    → list_record_from (get_or (first_chunks 16 (list_count list) list) p d) 0 ≡ list_record_at list p
unfolding list_record_at
record_of_chunk list p d h =
    let e : min (16 * p) (length list) ≡ 16 * p = omega arith in
    let whole : 16 ≤ length (drop (min (16 * p) (length list)) list) = rw (e, length-drop (16 * p) list) (omega arith) in
    ap (λ bytes. list_record_from bytes 0) (chunk_at (list_count list) list p d h ∙ rw e at (taken list (16 * p) 16 whole))
    ∙ list_record_here list (16 * p)
