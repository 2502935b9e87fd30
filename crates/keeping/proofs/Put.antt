-- Bytes put into a kept place one part after another, until it holds a state, and the buffer with that place in it. Assumes nothing.
use Rattle.std.specs.Prelude.{if◌then◌else◌}
use mathlib.Core.Path.{◌≡◌, refl, ◌∙◌}
use mathlib.Core.Bool.{Bool, true, false}
use mathlib.Core.List.{List, [], ◌∷◌, ◌++◌, append_assoc, append-nil}
use Prim.Native.Nat.{ℕ, ◌+◌, ◌-◌, ◌*◌, ◌/◌, ◌%◌, ◌≤◌, ◌<◌}
use native.Mathlib.Nat.{mul-le-mul_left, zero-add}
use native.Mathlib.Numerals.{add-one}
use native.Mathlib.Omega.{arith}
use lib.Dec.{eqb}
use lib.ListN.{length, get_or, take, drop, replicate, length-append}
use lib.Seq.{take-suc, length-take-le, drop-length, drop-drop}
use Rattle.rules.specs.Words.{joined, written}
use Rattle.rules.specs.Names.{variables, max_stations, kept_every, kept_length}
use Rattle.rules.specs.State.{State}
use Rattle.rules.specs.Kept.{kept_offset, in_two, in_four, raised, encoded, keep}
use Rattle.laws.proofs.Choice.{by_test}
use Rattle.laws.proofs.Joined.{length_joined}
use Rattle.laws.proofs.Written.{written_more}

-- a part of a buffer overwritten by as many bytes
pub written_part : (buffer bytes : List ℕ) (at size : ℕ) → length bytes ≡ size
    → take at buffer ++ (bytes ++ drop (at + size - at) (drop at buffer)) ≡ written buffer at bytes
unfolding written
written_part buffer bytes at size e = let long : at + size - at ≡ size = omega arith in rw (long, e, drop-drop)

-- more bytes, right after those put in
put_next : (place now next bytes more : List ℕ) (at offset : ℕ) → at + length bytes ≡ offset → offset ≤ length place
    → now ≡ written place at bytes → next ≡ written now offset more → next ≡ written place at (bytes ++ more)
put_next place now next bytes more at offset there room so_far new =
    rw (new, so_far, ← there) (written_more place at bytes more (omega arith))

module _ {A : Type 0} (spell : A → List ℕ) where
  joined_snoc : (xs : List A) (x : A) → joined spell (xs ++ (x ∷ [])) ≡ joined spell xs ++ spell x
  unfolding joined
  joined_snoc [] x = append-nil (spell x)
  joined_snoc (y ∷ xs) x = rw (joined_snoc xs x, append_assoc)

  module _ (size : ℕ) (sized : (x : A) → length (spell x) ≡ size) where
    -- one turn of a loop that puts in the bytes of the entries, from the front on
    pub joined_turn : (place now next : List ℕ) (at offset : ℕ) (xs : List A) (j : ℕ) (d : A) → j < length xs
        → at + size * length xs ≤ length place → offset ≡ at + size * j → now ≡ written place at (joined spell (take j xs))
        → next ≡ written now offset (spell (get_or xs j d)) → next ≡ written place at (joined spell (take (j + 1) xs))
    joined_turn place now next at offset xs j d within room there so_far new =
        let many : length (joined spell (take j xs)) ≡ size * j = rw (length_joined spell size sized (take j xs), length-take-le j xs (omega arith)) in
        let fewer = mul-le-mul_left {m = j} {n = length xs} size (omega arith) in
        put_next place now next (joined spell (take j xs)) (spell (get_or xs j d)) at offset (omega arith) (omega arith) so_far new
        ∙ rw (add-one, take-suc xs j d within, joined_snoc)

-- bytes for the whole of a place
written_whole : (place bytes : List ℕ) → length bytes ≡ length place → written place 0 bytes ≡ bytes
unfolding written
written_whole place bytes e = rw (zero-add, e, drop-length, append-nil)

-- what a place holds in the end
pub state_put : (place one two three four five : List ℕ) (s : State) → length s.vars ≡ variables → length s.positions ≡ max_stations
    → length s.priorities ≡ max_stations → length s.counts ≡ max_stations → length place ≡ kept_length
    → one ≡ written place 0 (joined in_four s.vars) → two ≡ written one 128 (joined in_two s.positions)
    → three ≡ written two 144 (joined (λ z. in_two (raised z)) s.priorities) → four ≡ written three 160 (joined in_two s.counts)
    → five ≡ written four 176 ((s.n ∷ s.b ∷ in_two s.m) ++ replicate 4 0) → five ≡ encoded s
unfolding encoded
state_put place one two three four five s v p q r whole e f g h i =
    let vars = joined in_four s.vars in
    let positions = joined in_two s.positions in
    let priorities = joined (λ z. in_two (raised z)) s.priorities in
    let counts = joined in_two s.counts in
    let rest = (s.n ∷ s.b ∷ in_two s.m) ++ replicate 4 0 in
    let a : length vars ≡ 128 = rw (length_joined in_four 4 (λ x. refl) s.vars, v) in
    let b : length positions ≡ 16 = rw (length_joined in_two 2 (λ x. refl) s.positions, p) in
    let c : length priorities ≡ 16 = rw (length_joined (λ z. in_two (raised z)) 2 (λ z. refl) s.priorities, q) in
    let d : length counts ≡ 16 = rw (length_joined in_two 2 (λ x. refl) s.counts, r) in
    let j : length (vars ++ positions) ≡ 144 = rw (length-append, a, b) in
    let k : length ((vars ++ positions) ++ priorities) ≡ 160 = rw (length-append, j, c) in
    let l : length (((vars ++ positions) ++ priorities) ++ counts) ≡ 176 = rw (length-append, k, d) in
    let m : length ((((vars ++ positions) ++ priorities) ++ counts) ++ rest) ≡ length place = rw (length-append, l, whole) in
    let second = put_next place one two vars positions 0 128 (omega arith) (omega arith) e f in
    let third = put_next place two three (vars ++ positions) priorities 0 144 (omega arith) (omega arith) second g in
    let fourth = put_next place three four ((vars ++ positions) ++ priorities) counts 0 160 (omega arith) (omega arith) third h in
    put_next place four five (((vars ++ positions) ++ priorities) ++ counts) rest 0 176 (omega arith) (omega arith) fourth i
    ∙ written_whole place ((((vars ++ positions) ++ priorities) ++ counts) ++ rest) m
    ∙ simp append_assoc

-- where the steps of a state are no multiple of 64 nothing is kept
pub unkept : (holds : Bool) (kept : List ℕ) (s : State) → eqb (s.m % kept_every) 0 ≡ false → kept ≡ (if holds then keep kept s else kept)
unfolding keep
unkept holds kept s other = by_test holds (λ e. rw (e, other)) (λ e. rw e)

-- a place filled with a state, in the buffer that it is a part of
pub place_kept : (kept place : List ℕ) (s : State) (size : ℕ) → eqb (s.m % kept_every) 0 ≡ true → length place ≡ size → place ≡ encoded s
    → let at = kept_offset (s.m / kept_every) in take at kept ++ (place ++ drop size (drop at kept)) ≡ keep kept s
unfolding keep written
place_kept kept place s size multiple long filled = rw (multiple, ← filled, long, drop-drop)
