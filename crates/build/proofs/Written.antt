-- Bytes put into a buffer: two writes side by side are one, for any bytes and for the records of a list. Assumes nothing.
use mathlib.Core.Path.{◌≡◌, refl}
use mathlib.Core.Bool.{true}
use mathlib.Core.List.{List, [], ◌∷◌, ◌++◌, append_assoc}
use Prim.Native.Nat.{ℕ, suc, ◌+◌, ◌*◌, ◌≤◌}
use native.Mathlib.Omega.{arith}
use lib.Dec.{leb}
use lib.ListN.{length, take, drop, length-append, length-take}
use lib.Seq.{take-append-le, take-take, drop_at}
use borrow.Author.Tests.{le-leb}
use Rattle.rules.specs.Words.{written}
use Rattle.rules.specs.Records.{ListRecord}
use Rattle.rules.specs.Build.{bytes_of}
use Rattle.built.proofs.Bytes.{length_bytes_of}
use Rattle.laws.proofs.Written.{length_written}
use Rattle.laying.specs.Laid.{put_at}

-- what is written before is written in front
pub written_beside : (buffer xs ys : List ℕ) (at : ℕ) → at + length xs + length ys ≤ length buffer
    → written (written buffer (at + length xs) ys) at xs ≡ written buffer at (xs ++ ys)
unfolding written
written_beside buffer xs ys at h =
    let n : ℕ = at + length xs in
    let l : length (take n buffer) ≡ n = simp length-take (omega arith) in
    let k : at ≤ length (take n buffer) = omega arith in
    let s : n + length ys ≡ at + length (xs ++ ys) = simp length-append (omega arith) in
    rw (
      take-append-le at (take n buffer) (ys ++ drop (n + length ys) buffer) k,
      take-take at n buffer (omega arith),
      drop_at (take n buffer) (ys ++ drop (n + length ys) buffer) n l,
      s,
      append_assoc,
    )

pub bytes_of_append : (ds es : List ListRecord) → bytes_of (ds ++ es) ≡ bytes_of ds ++ bytes_of es
unfolding bytes_of
bytes_of_append [] es = refl
bytes_of_append (d ∷ ds) es = rw (bytes_of_append ds es, append_assoc)

-- the records ds, put where they end at the place q from which the records es stand
pub records_before : (buffer : List ℕ) (p q : ℕ) (ds es : List ListRecord) → q ≡ p + length ds → 16 * (q + length es) ≤ length buffer
    → written (written buffer (16 * q) (bytes_of es)) (16 * p) (bytes_of ds) ≡ written buffer (16 * p) (bytes_of (ds ++ es))
records_before buffer p q ds es e h =
    let l = length_bytes_of ds in
    let k = length_bytes_of es in
    let s : 16 * q ≡ 16 * p + length (bytes_of ds) = omega arith in
    rw (s, written_beside buffer (bytes_of ds) (bytes_of es) (16 * p) (omega arith), bytes_of_append ds es)

-- one record more in front
pub record_before : (buffer : List ℕ) (p : ℕ) (e : ListRecord) (es : List ListRecord) → 16 * (suc p + length es) ≤ length buffer
    → put_at p e (written buffer (16 * suc p) (bytes_of es)) ≡ written buffer (16 * p) (bytes_of (e ∷ es))
unfolding put_at bytes_of
record_before buffer p e es h =
    let k = length_bytes_of es in
    let n : ℕ = length (written buffer (16 * suc p) (bytes_of es)) in
    let l : n ≡ length buffer = length_written buffer (16 * suc p) (bytes_of es) (omega arith) in
    let room : leb (16 * p + 16) n ≡ true = le-leb (16 * p + 16) n (omega arith) in
    rw room (records_before buffer p (suc p) (e ∷ []) es (omega arith) h)
