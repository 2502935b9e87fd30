-- Kept states: "the whole run state after steps 64, 128 and so on to 4,096 in a lent buffer beside the log". docs/KEPT.md gives their bytes one
-- by one. Of a number that is spelled by several bytes the last is what the others leave, and is a byte where the number fits them. These are
-- definitions.
use Rattle.std.specs.Prelude.{ℕ, ◌+◌, ◌-◌, ◌*◌, ◌/◌, ◌%◌, Bool, ◌&&◌, List, [], ◌∷◌, ◌++◌, eqb, ltb, length, get_or, replicate, ℤ, pos, negsuc, if◌then◌else◌}
use Rattle.std.proofs.Math.IntN.{sub_ℕ}
use Rattle.rules.specs.Words.{each, values, joined, written}
use Rattle.rules.specs.Names.{variables, max_stations, kept_every, max_kept, kept_length}
use Rattle.rules.specs.Records.{half, word}
use Rattle.rules.specs.State.{State, sound_state}

-- "for a buffer that can't hold 64 kept states"
abbrev pub kept_short : List ℕ → Bool
kept_short kept = ltb (length kept) (kept_length * max_kept)

-- kept place j, from 1 on, is for the state after 64j steps: where it begins
abbrev pub kept_offset : ℕ → ℕ
kept_offset j = kept_length * (j - 1)

-- two bytes and four, low byte first, the last whole (those of a list record take each modulo 256)
abbrev pub in_two : ℕ → List ℕ
in_two x = x % 256 ∷ x / 256 ∷ []

abbrev pub in_four : ℕ → List ℕ
in_four x = x % 256 ∷ x / 256 % 256 ∷ x / 65536 % 256 ∷ x / 16777216 ∷ []

-- a priority as a number that is not negative, 32,768 more; and back
abbrev pub raised : ℤ → ℕ
raised (pos x) = 32768 + x
raised (negsuc x) = 32767 - x

abbrev pub lowered : ℕ → ℤ
lowered x = sub_ℕ x 32768

-- the bytes of a state
unfoldable pub encoded : State → List ℕ
encoded s =
    joined in_four s.vars
    ++ joined in_two s.positions
    ++ joined (λ z. in_two (raised z)) s.priorities
    ++ joined in_two s.counts
    ++ (s.n ∷ s.b ∷ in_two s.m)
    ++ replicate 4 0

-- the state in kept place j
unfoldable pub kept_state : List ℕ → ℕ → State
kept_state kept j =
    let at = kept_offset j in
    record {
      vars = values (λ v. word kept (at + 4 * v)) variables;
      positions = values (λ i. half kept (at + 128 + 2 * i)) max_stations;
      priorities = values (λ i. lowered (half kept (at + 144 + 2 * i))) max_stations;
      counts = values (λ i. half kept (at + 160 + 2 * i)) max_stations;
      n = get_or kept (at + 176) 0;
      b = get_or kept (at + 177) 0;
      m = half kept (at + 178);
    }

-- its bytes that are zero
unfoldable pub kept_zeros : List ℕ → ℕ → Bool
kept_zeros kept j =
    let at = kept_offset j in
    each (λ i. eqb (get_or kept (at + 180 + i) 0) 0) 4

-- "for the kept state used if it is not sound or its m or B is another than its place and the state given say" is what it is not, and bytes that
-- are to be zero are
unfoldable pub kept_right : List ℕ → List ℕ → ℕ → ℕ → Bool
kept_right list kept b j =
    let s = kept_state kept j in
    kept_zeros kept j && sound_state list s && eqb s.m (kept_every * j) && eqb s.b b

-- "Every step that reaches a multiple of 64 writes its place anew", with the state that it reaches
unfoldable pub keep : List ℕ → State → List ℕ
keep kept s =
    if eqb (s.m % kept_every) 0 then written kept (kept_offset (s.m / kept_every)) (encoded s) else kept
