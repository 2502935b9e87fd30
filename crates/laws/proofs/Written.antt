-- Bytes put into a buffer, and how a log's records read back. Assumes nothing.
use mathlib.Core.Path.{◌≡◌, refl, sym, ap, ◌∙◌}
use mathlib.Core.Bool.{true}
use mathlib.Core.List.{List, [], ◌∷◌, ◌++◌, append_assoc}
use Prim.Native.Nat.{ℕ, zero, suc, ◌+◌, ◌*◌, ◌≤◌, ◌<◌}
use native.Mathlib.Nat.{zero-add, not-suc-le-zero, le_of_suc-le-suc}
use native.Mathlib.Numerals.{add-one}
use native.Mathlib.Omega.{arith}
use borrow.Author.Tests.{eq-eqb, le-leb}
use lib.ListN.{length, get_or, take, drop, set, length-append, length-take, length-drop, take-append-drop}
use lib.Seq.{sets, sets-eq, take_at, drop-drop, drop-append-add, get_or_at, get_or-append-add, ext_get_or}
use Rattle.rules.specs.Words.{values, written}
use Rattle.rules.specs.Records.{Pick, pick_at, pick_bytes}
use Rattle.rules.specs.List.{stations}
use Rattle.rules.specs.Start.{start_records}
use Rattle.rules.specs.Undo.{starts_right}
use Rattle.laws.proofs.Choice.{both}
use Rattle.laws.proofs.Places.{each_all, length_values, get_or_values}

-- bytes put in behind the first ones
pub written_behind : (first rest bytes : List ℕ) (at : ℕ) → length first ≡ at
    → written (first ++ rest) at bytes ≡ first ++ (bytes ++ drop (length bytes) rest)
unfolding written
written_behind first rest bytes at e =
    rw (take_at first rest at e, ← e, drop-append-add first rest (length bytes))

-- no bytes put in
pub written_none : (log : List ℕ) (at : ℕ) → written log at [] ≡ log
unfolding written
written_none log at = let e : at + 0 ≡ at = omega arith in rw (e, take-append-drop)

pub length_written : (log : List ℕ) (at : ℕ) (bytes : List ℕ) → at + length bytes ≤ length log → length (written log at bytes) ≡ length log
unfolding written
length_written log at bytes fits = simp (length-append, length-take, length-drop) (omega arith)

-- bytes put in, and more right after them
pub written_more : (log : List ℕ) (at : ℕ) (bytes more : List ℕ) → at + length bytes ≤ length log
    → written (written log at bytes) (at + length bytes) more ≡ written log at (bytes ++ more)
unfolding written
written_more log at bytes more fits =
    let first = take at log ++ bytes in
    let rest = drop (at + length bytes) log in
    let n : length first ≡ at + length bytes = simp (length-append, length-take) (omega arith) in
    let far : at + length (bytes ++ more) ≡ at + length bytes + length more = omega (arith, length-append bytes more) in
    ap (λ (l : List ℕ). written l (at + length bytes) more) (sym (append_assoc (take at log) bytes rest))
    ∙ written_behind first rest more (at + length bytes) n
    ∙ rw (far, drop-drop) (simp append_assoc)

-- the record behind the first i reads back as its pick
pub pick_behind : (first rest : List ℕ) (i : ℕ) (p : Pick) → length first ≡ 2 * i → pick_at (first ++ (pick_bytes p ++ rest)) i ≡ p
pick_behind first rest i p e =
    let a = get_or_at first p.station (p.reset ∷ rest) 0 (2 * i) e in
    let b : get_or (first ++ (pick_bytes p ++ rest)) (2 * i + 1) 0 ≡ p.reset = rw (← e) (get_or-append-add first (pick_bytes p ++ rest) 1 0) in
    rw (a, b)

pub length_starts : (j : ℕ) (resets : List ℕ) → length (start_records j resets) ≡ 2 * length resets
unfolding start_records
length_starts j [] = refl
length_starts j (reset ∷ resets) = let h = length_starts (suc j) resets in omega arith

start_behind : (j : ℕ) (resets rest : List ℕ) (i : ℕ) → i < length resets
    → pick_at (start_records j resets ++ rest) i ≡ record { station = j + i; reset = get_or resets i 0 }
unfolding start_records
start_behind j [] rest i l = absurd (not-suc-le-zero l)
start_behind j (reset ∷ resets) rest zero l = let e : j ≡ j + 0 = omega arith in rw (← e)
start_behind j (reset ∷ resets) rest (suc i) l =
    let e : 2 * suc i ≡ suc (suc (2 * i)) = omega arith in
    let f : suc (suc (2 * i)) + 1 ≡ suc (suc (2 * i + 1)) = omega arith in
    let g : j + suc i ≡ suc j + i = omega arith in
    rw (e, f, g) (start_behind (suc j) resets rest i (le_of_suc-le-suc l))

-- the resets of the start records are the start's
pub resets_behind : (resets rest : List ℕ) (n : ℕ) → length resets ≡ n
    → values (λ j. (pick_at (start_records 0 resets ++ rest) j).reset) n ≡ resets
resets_behind resets rest n e =
    let same = length_values (λ j. (pick_at (start_records 0 resets ++ rest) j).reset) n in
    ext_get_or 0 _ resets (same ∙ sym e)
    (λ i l. get_or_values _ n i 0 (omega arith) ∙ ap (λ (p : Pick). p.reset) (start_behind 0 resets rest i (omega arith)))

-- and the start records are in their places, none above B
pub starts_behind : (list resets rest : List ℕ) (b : ℕ) → length resets ≡ stations list
    → ((j : ℕ) → j < stations list → get_or resets j 0 ≤ b)
    → starts_right list b (start_records 0 resets ++ rest) ≡ true
unfolding starts_right
starts_behind list resets rest b n within =
    each_all _ (stations list)
    (λ j l.
    let e = start_behind 0 resets rest j (omega arith) in
    both (eq-eqb _ j (ap (λ (p : Pick). p.station) e ∙ zero-add j)) (rw (ap (λ (p : Pick). p.reset) e) (le-leb _ b (within j l))))

-- a buffer that is long enough has the bytes set one by one
pub written_sets : (log : List ℕ) (at : ℕ) (bytes : List ℕ) → at + length bytes ≤ length log → written log at bytes ≡ sets log at bytes
unfolding written
written_sets log at bytes room = rw (sets-eq bytes log at room, append_assoc)

-- a record of two bytes
pub written_record : (log : List ℕ) (at a b : ℕ) → at + 2 ≤ length log → set (set log at a) (at + 1) b ≡ written log at (a ∷ b ∷ [])
written_record log at a b room = rw (written_sets log at (a ∷ b ∷ []) room, add-one)
