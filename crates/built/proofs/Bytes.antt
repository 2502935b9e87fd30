-- The bytes of list records spell those records, where each number fits into its bytes. Assumes nothing.
use mathlib.Core.Path.{◌≡◌, refl, ◌∙◌}
use mathlib.Core.List.{List, [], ◌∷◌, ◌++◌}
use Prim.Native.Nat.{ℕ, zero, suc, ◌+◌, ◌*◌, ◌/◌, ◌%◌, ◌<◌, ◌^◌}
use native.Mathlib.Nat.{add_assoc, div-div-eq-div-mul, not-suc-le-zero, le_of_suc-le-suc}
use native.Mathlib.Omega.{arith}
use lib.ListN.{length, get_or, length-append}
use lib.Seq.{get_or-append-add}
use Rattle.rules.specs.Records.{ListRecord, record_from, list_record_at, list_count, list_record_bytes}
use Rattle.rules.specs.Build.{bytes_of}
use Rattle.built.specs.Targets.{blank}

-- the numbers of more than one byte fit into their bytes
pub record Fits (e : ListRecord) : Type 0 where
  pub k : e.own.k < 2 ^ 32
  pub t1 : e.t1 < 65536
  pub t2 : e.t2 < 65536
  pub spare : e.spare < 65536

pub length_bytes_of : (es : List ListRecord) → length (bytes_of es) ≡ 16 * length es
unfolding bytes_of
length_bytes_of [] = refl
length_bytes_of (e ∷ es) = let h = length_bytes_of es in simp length-append (omega arith)

pub count_bytes_of : (es : List ListRecord) → list_count (bytes_of es) ≡ length es
count_bytes_of es = let h = length_bytes_of es in omega arith

word_whole : (x : ℕ) → x < 2 ^ 32 → x % 256 + 256 * (x / 256 % 256) + 65536 * (x / 65536 % 256) + 16777216 * (x / 16777216 % 256) ≡ x
word_whole x h =
    let a : x / 256 / 256 ≡ x / 65536 = div-div-eq-div-mul x 256 256 in
    let b : x / 65536 / 256 ≡ x / 16777216 = div-div-eq-div-mul x 65536 256 in
    let c : x % 256 + 256 * (x / 256) ≡ x = omega arith in
    let d : x / 256 % 256 + 256 * (x / 65536) ≡ x / 256 = omega arith in
    let e : x / 65536 % 256 + 256 * (x / 16777216) ≡ x / 65536 = omega arith in
    let f : x / 16777216 % 256 ≡ x / 16777216 = omega arith in
    omega arith

half_whole : (x : ℕ) → x < 65536 → x % 256 + 256 * (x / 256 % 256) ≡ x
half_whole x h = omega arith

-- the first sixteen bytes are the first record
first_record : (e : ListRecord) (bytes : List ℕ) → Fits e → list_record_at (list_record_bytes e ++ bytes) 0 ≡ e
unfolding list_record_at record_from
first_record e bytes h =
    let k = word_whole e.own.k h.k in
    let t1 = half_whole e.t1 h.t1 in
    let t2 = half_whole e.t2 h.t2 in
    let spare = half_whole e.spare h.spare in
    λ i. record {
      own = record { kind = e.own.kind; a = e.own.a; b = e.own.b; op = e.own.op; k = k i };
      station = e.station;
      inside = e.inside;
      t1 = t1 i;
      t2 = t2 i;
      spare = spare i;
    }

-- past sixteen bytes the records are those of the bytes that follow
further_record : (xs ys : List ℕ) (p : ℕ) → length xs ≡ 16 → list_record_at (xs ++ ys) (suc p) ≡ list_record_at ys p
unfolding list_record_at record_from
further_record xs ys p h =
    let e : 16 * suc p ≡ length xs + 16 * p = omega arith in
    rw e (simp (add_assoc, get_or-append-add))

-- record number p of the bytes is entry p
pub decoded : (es : List ListRecord) → ((p : ℕ) → p < length es → Fits (get_or es p blank)) → (p : ℕ) → p < length es
    → list_record_at (bytes_of es) p ≡ get_or es p blank
unfolding bytes_of
decoded [] h p l = absurd (not-suc-le-zero l)
decoded (e ∷ es) h zero l = first_record e (bytes_of es) (h 0 l)
decoded (e ∷ es) h (suc p) l =
    further_record (list_record_bytes e) (bytes_of es) p refl
    ∙ decoded es (λ q k. h (suc q) (omega arith)) p (le_of_suc-le-suc l)
