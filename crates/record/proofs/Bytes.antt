-- What is read from an offset of a buffer, bytes past its end being zeros. Assumes nothing.
use mathlib.Core.Path.{◌≡◌, refl, sym, ap, subst, ◌∙◌}
use mathlib.Core.List.{List, [], ◌∷◌, ◌++◌}
use Prim.Native.Nat.{ℕ, suc, ◌+◌, ◌-◌, ◌≤◌, ◌<◌, min}
use native.Mathlib.Nat.{add_assoc, add-zero}
use native.Mathlib.Omega.{arith}
use lib.ListN.{length, get_or, replicate, take, drop, get_or-append, get_or-eq_default}
use Rattle.std.proofs.Math.Seq.{get_or-append_right}
use borrow.Author.Tests.{ltb-true, ltb-false}
use Rattle.std.specs.Prelude.{ltb}
use Rattle.std.proofs.lemmas.List.{get_or-drop, get_or-take, get_or-replicate, drop-replicate, length-take-le, length-append, length-replicate}
use Rattle.rules.specs.Words.{values}
use Rattle.rules.specs.Records.{record_from}
use Rattle.laws.proofs.Choice.{by_test}
use Rattle.laws.proofs.Places.{values_same}
use Rattle.record.specs.Bytes.{bytes_from}
use Rattle.record.specs.View.{list_record_from}

-- a list is the values at its places
pub values_at : {A : Type 0} (l : List A) (f : ℕ → A) (d : A) → ((i : ℕ) → i < length l → get_or l i d ≡ f i) → l ≡ values f (length l)
unfolding values
values_at [] f d h = refl
values_at (x ∷ l) f d h =
    ap (λ a. a ∷ l) (h 0 (omega arith)) ∙ ap (λ t. f 0 ∷ t) (values_at l (λ i. f (suc i)) d (λ i k. h (suc i) (omega arith)))

-- what stands behind an offset, or behind the end where that comes first
pub behind : (bytes : List ℕ) (at i : ℕ) → get_or (drop (min at (length bytes)) bytes) i 0 ≡ get_or bytes (at + i) 0
behind bytes at i =
    get_or-drop (min at (length bytes)) bytes i 0
    ∙ by_test (ltb at (length bytes))
    (λ l. let e : min at (length bytes) ≡ at = omega (arith, ltb-true _ _ l) in ap (λ k. get_or bytes (k + i) 0) e)
    (λ l.
    let past : length bytes ≤ at = ltb-false _ _ l in
    let e : min at (length bytes) ≡ length bytes = omega arith in
    ap (λ k. get_or bytes (k + i) 0) e ∙ get_or-eq_default bytes 0 (omega arith) ∙ sym (get_or-eq_default bytes 0 (omega arith)))

-- as many of them as are asked for, where there are so many
pub taken : (bytes : List ℕ) (at n : ℕ) → n ≤ length (drop (min at (length bytes)) bytes)
    → take n (drop (min at (length bytes)) bytes) ≡ bytes_from n bytes at
taken bytes at n h =
    let rest = drop (min at (length bytes)) bytes in
    let e : length (take n rest) ≡ n = length-take-le n rest h in
    values_at (take n rest) (λ i. get_or bytes (at + i) 0) 0 (λ i k. get_or-take n rest i 0 (omega arith) ∙ behind bytes at i)
    ∙ ap (values (λ i. get_or bytes (at + i) 0)) e

-- and all of them with zeros behind, where there are fewer
pub padded : (bytes : List ℕ) (at n : ℕ) → length (drop (min at (length bytes)) bytes) ≤ n
    → drop (min at (length bytes)) bytes ++ drop (length (drop (min at (length bytes)) bytes)) (replicate n 0) ≡ bytes_from n bytes at
padded bytes at n h =
    let rest = drop (min at (length bytes)) bytes in
    let zeros = replicate (n - length rest) 0 in
    let e : length (rest ++ zeros) ≡ n = simp (length-append, length-replicate) (omega arith) in
    ap (λ l. rest ++ l) (drop-replicate (length rest) n 0)
    ∙ values_at (rest ++ zeros) (λ i. get_or bytes (at + i) 0) 0 (λ i k.
    let within : i < n = subst (λ m. i < m) e k in
    by_test (ltb i (length rest))
    (λ l. get_or-append rest zeros 0 i (ltb-true _ _ l) ∙ behind bytes at i)
    (λ l.
    let past : length rest ≤ i = ltb-false _ _ l in
    get_or-append_right rest zeros i 0 past ∙ get_or-replicate (n - length rest) (i - length rest) 0 0 (omega (arith, within))
    ∙ sym (get_or-eq_default rest 0 past) ∙ behind bytes at i))
    ∙ ap (values (λ i. get_or bytes (at + i) 0)) e

-- an offset that 64 bits cannot hold lies past the end, as does the largest that they can
pub far : (n : ℕ) (bytes : List ℕ) (at : ℕ) → length bytes < 18446744073709551616
    → bytes_from n bytes (min at 18446744073709551615) ≡ bytes_from n bytes at
far n bytes at h = values_same _ _ n (λ i within. by_test (ltb at 18446744073709551616)
    (λ l. let e : min at 18446744073709551615 ≡ at = omega (arith, ltb-true _ _ l) in ap (λ k. get_or bytes (k + i) 0) e)
    (λ l.
    let past : 18446744073709551616 ≤ at = ltb-false _ _ l in
    get_or-eq_default bytes 0 (omega arith) ∙ sym (get_or-eq_default bytes 0 (omega arith))))

-- a record is told by its bytes, and by those at an offset
pub record_here : (bytes : List ℕ) (at : ℕ) → record_from (bytes_from 8 bytes at) 0 ≡ record_from bytes at
unfolding record_from values
record_here bytes at = simp (add_assoc, add-zero)

pub list_record_here : (bytes : List ℕ) (at : ℕ) → list_record_from (bytes_from 16 bytes at) 0 ≡ list_record_from bytes at
unfolding record_from values
list_record_here bytes at = simp (add_assoc, add-zero)
