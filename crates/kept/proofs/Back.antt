-- A state that is written to a kept place is read back whole. Assumes nothing.
use mathlib.Core.Path.{◌≡◌, refl, sym, ◌∙◌}
use mathlib.Core.Bool.{true, false, ◌&&◌, false≢true, true≢false}
use mathlib.Core.List.{List, ◌∷◌, ◌++◌, append_assoc}
use Prim.Native.Nat.{ℕ, zero, suc, ◌+◌, ◌-◌, ◌*◌, ◌/◌, ◌%◌, ◌≤◌, ◌<◌}
use native.Mathlib.Omega.{arith}
use borrow.Author.Tests.{le-ltb, lt-ltb, leb-false, lt-leb, ltb-true, ltb-false, eq-eqb}
use lib.Dec.{eqb, ltb}
use lib.ListN.{length, get_or, replicate, length-append, get_or-append}
use lib.Seq.{get_or-append-add, ext_get_or}
use lib.IntN.{ℤ, pos, negsuc, neg_ℤ}
use lib.Signed.{le_z}
use Rattle.rules.specs.Words.{values, joined, written}
use Rattle.rules.specs.Names.{variables, max_stations, kept_length}
use Rattle.rules.specs.Records.{half, word}
use Rattle.rules.specs.State.{State, position, priority, count, empty_at}
use Rattle.rules.specs.Kept.{kept_offset, in_two, in_four, raised, lowered, encoded, kept_state, kept_zeros}
use Rattle.laws.specs.Passed.{Known}
use Rattle.laws.proofs.Choice.{by_test, both_left, both_right}
use Rattle.laws.proofs.Places.{each_all, length_values, get_or_values}
use Rattle.laws.proofs.Joined.{length_joined, get_or_joined}
use Rattle.laws.proofs.Sound.{sound_means, at_most_eight}
use Rattle.fair.specs.Sound.{Held}
use Rattle.fair.proofs.Charge.{above_low}
use Rattle.kept.specs.Keeps.{HasPlace, KeptBack}
use Rattle.kept.proofs.Bytes.{get_or_put}

-- a number that is 32,768 more comes back, unless it was too low to be raised
not_low : ℤ → Type 0
not_low z = le_z z (negsuc 8) ≡ false

lowered_raised : (z : ℤ) → not_low z → lowered (raised z) ≡ z
unfolding not_low
lowered_raised (pos x) h =
    let e : 32768 + x - 32768 ≡ x = omega arith in
    rw (le-ltb (32768 + x) 32768 (omega arith), e)
lowered_raised (negsuc x) h =
    let l : x < 8 = leb-false 8 x h in
    let e : 32768 - suc (32767 - x) ≡ x = omega arith in
    rw (lt-ltb (32767 - x) 32768 (omega arith), e)

-- no priority of a sound state is
above : (z : ℤ) (n : ℕ) → n ≤ 8 → le_z z (neg_ℤ (pos n)) ≡ false → not_low z
unfolding not_low
above (pos x) n h e = refl
above (negsuc x) zero h e = absurd (true≢false e)
above (negsuc x) (suc n) h e = let l : x < n = leb-false n x e in lt-leb 8 x (omega arith)

not_negative : (z : ℤ) → le_z (pos 0) z ≡ true → not_low z
unfolding not_low
not_negative (pos x) h = refl
not_negative (negsuc x) h = absurd (false≢true h)

high_enough : (list : List ℕ) (s : State) → Known list s → (j : ℕ) → j < max_stations → not_low (priority s j)
unfolding empty_at
high_enough list s known j l =
    let sound = (sound_means list s).0 known.of_state in
    by_test (ltb j s.n)
    (λ e. above (priority s j) s.n (at_most_eight known) (above_low s sound.few j (ltb-true j s.n e)))
    (λ e.
    let clear = both_left _ (eqb (count s j) 0) (sound.empty j (ltb-false j s.n e) l) in
    not_negative (priority s j) (both_right (eqb (position s j) 0 && le_z (priority s j) (pos 0)) _ clear))

-- the parts of a state's bytes
abbrev in_fours : State → List ℕ
in_fours s = joined in_four s.vars

abbrev in_twos : State → List ℕ
in_twos s = joined in_two s.positions

abbrev in_raised : State → List ℕ
in_raised s = joined (λ z. in_two (raised z)) s.priorities

abbrev in_counts : State → List ℕ
in_counts s = joined in_two s.counts

abbrev last_bytes : State → List ℕ
last_bytes s = (s.n ∷ s.b ∷ in_two s.m) ++ replicate 4 0

parted : (s : State) → encoded s ≡ in_fours s ++ (in_twos s ++ (in_raised s ++ (in_counts s ++ last_bytes s)))
unfolding encoded
parted s = simp append_assoc

-- what stands behind a front of so many bytes
behind : (front rest : List ℕ) (k i at : ℕ) → length front ≡ k → at ≡ k + i → get_or (front ++ rest) at 0 ≡ get_or rest i 0
behind front rest k i at e f = rw (f, ← e) (get_or-append-add front rest i 0)

module _ (s : State) (held : Held s) where
  length_fours : length (in_fours s) ≡ 128
  length_fours = length_joined in_four 4 (λ x. refl) s.vars ∙ rw held.vars

  length_twos : length (in_twos s) ≡ 16
  length_twos = length_joined in_two 2 (λ x. refl) s.positions ∙ rw held.positions

  length_raised : length (in_raised s) ≡ 16
  length_raised = length_joined (λ z. in_two (raised z)) 2 (λ x. refl) s.priorities ∙ rw held.priorities

  length_counts : length (in_counts s) ≡ 16
  length_counts = length_joined in_two 2 (λ x. refl) s.counts ∙ rw held.counts

  pub length_encoded : length (encoded s) ≡ kept_length
  length_encoded =
      rw (parted s) (simp length-append (omega (arith, length_fours, length_twos, length_raised, length_counts)))

  -- a variable's bytes, a position's, a priority's and a count's, and those behind them
  var_byte : (v r : ℕ) → v < variables → r < 4 → get_or (encoded s) (4 * v + r) 0 ≡ get_or (in_four (get_or s.vars v 0)) r 0
  var_byte v r l k =
      rw (parted s)
      (get_or-append (in_fours s) _ 0 (4 * v + r) (omega (arith, length_fours))
      ∙ get_or_joined in_four 4 (λ x. refl) s.vars v r 0 (omega (arith, held.vars)) k)

  position_byte : (j r : ℕ) → j < max_stations → r < 2 → get_or (encoded s) (128 + 2 * j + r) 0 ≡ get_or (in_two (get_or s.positions j 0)) r 0
  position_byte j r l k =
      rw (parted s)
      (behind (in_fours s) _ 128 (2 * j + r) _ length_fours (omega arith)
      ∙ get_or-append (in_twos s) _ 0 (2 * j + r) (omega (arith, length_twos))
      ∙ get_or_joined in_two 2 (λ x. refl) s.positions j r 0 (omega (arith, held.positions)) k)

  priority_byte : (j r : ℕ) → j < max_stations → r < 2 → get_or (encoded s) (144 + 2 * j + r) 0 ≡ get_or (in_two (raised (priority s j))) r 0
  priority_byte j r l k =
      rw (parted s)
      (behind (in_fours s) _ 128 (16 + (2 * j + r)) _ length_fours (omega arith)
      ∙ behind (in_twos s) _ 16 (2 * j + r) _ length_twos refl
      ∙ get_or-append (in_raised s) _ 0 (2 * j + r) (omega (arith, length_raised))
      ∙ get_or_joined (λ z. in_two (raised z)) 2 (λ x. refl) s.priorities j r (pos 0) (omega (arith, held.priorities)) k)

  from_counts : (i at : ℕ) → at ≡ 160 + i → get_or (encoded s) at 0 ≡ get_or (in_counts s ++ last_bytes s) i 0
  from_counts i at e =
      rw (parted s)
      (behind (in_fours s) _ 128 (32 + i) at length_fours (omega arith)
      ∙ behind (in_twos s) _ 16 (16 + i) _ length_twos (omega arith)
      ∙ behind (in_raised s) _ 16 i _ length_raised refl)

  count_byte : (j r : ℕ) → j < max_stations → r < 2 → get_or (encoded s) (160 + 2 * j + r) 0 ≡ get_or (in_two (get_or s.counts j 0)) r 0
  count_byte j r l k =
      from_counts (2 * j + r) _ (omega arith)
      ∙ get_or-append (in_counts s) _ 0 (2 * j + r) (omega (arith, length_counts))
      ∙ get_or_joined in_two 2 (λ x. refl) s.counts j r 0 (omega (arith, held.counts)) k

  last_byte : (i at : ℕ) → at ≡ 176 + i → get_or (encoded s) at 0 ≡ get_or (last_bytes s) i 0
  last_byte i at e = from_counts (16 + i) at (omega arith) ∙ behind (in_counts s) _ 16 i _ length_counts refl

-- zeros
get_d_replicate : (n i : ℕ) → get_or {A = ℕ} (replicate n 0) i 0 ≡ 0
get_d_replicate zero i = refl
get_d_replicate (suc n) zero = refl
get_d_replicate (suc n) (suc i) = get_d_replicate n i

end_zero : (s : State) (i : ℕ) → get_or (last_bytes s) (4 + i) 0 ≡ 0
end_zero s i = behind (s.n ∷ s.b ∷ in_two s.m) (replicate 4 0) 4 i (4 + i) refl refl ∙ get_d_replicate 4 i

-- four bytes and two, read back
four_back : (x : ℕ) → x % 256 + 256 * (x / 256 % 256) + 65536 * (x / 65536 % 256) + 16777216 * (x / 16777216) ≡ x
four_back x = omega arith

two_back : (x : ℕ) → x % 256 + 256 * (x / 256) ≡ x
two_back x = omega arith

module _ (list kept : List ℕ) (s : State) (j : ℕ) (held : Held s) (known : Known list s) (room : HasPlace kept j) where
  abbrev place : List ℕ
  place = written kept (kept_offset j) (encoded s)

  -- byte i of the place, at any offset that is its own
  here : (i at : ℕ) → i < kept_length → at ≡ kept_offset j + i → get_or place at 0 ≡ get_or (encoded s) i 0
  here i at l e =
      rw e (get_or_put kept (kept_offset j) (encoded s) (omega (arith, length_encoded s held)) i (omega (arith, length_encoded s held)))

  var_back : (v : ℕ) → v < variables → word place (kept_offset j + 4 * v) ≡ get_or s.vars v 0
  var_back v l =
      let x = get_or s.vars v 0 in
      let a = here (4 * v + 0) (kept_offset j + 4 * v) (omega arith) (omega arith) ∙ var_byte s held v 0 l (omega arith) in
      let b = here (4 * v + 1) (kept_offset j + 4 * v + 1) (omega arith) (omega arith) ∙ var_byte s held v 1 l (omega arith) in
      let c = here (4 * v + 2) (kept_offset j + 4 * v + 2) (omega arith) (omega arith) ∙ var_byte s held v 2 l (omega arith) in
      let d = here (4 * v + 3) (kept_offset j + 4 * v + 3) (omega arith) (omega arith) ∙ var_byte s held v 3 l (omega arith) in
      rw (a, b, c, d) (four_back x)

  -- a number of two bytes
  half_back : (at x : ℕ) → at + 2 ≤ kept_length → ((r : ℕ) → r < 2 → get_or (encoded s) (at + r) 0 ≡ get_or (in_two x) r 0)
      → half place (kept_offset j + at) ≡ x
  half_back at x l bytes =
      let a = here (at + 0) (kept_offset j + at) (omega arith) (omega arith) ∙ bytes 0 (omega arith) in
      let b = here (at + 1) (kept_offset j + at + 1) (omega arith) (omega arith) ∙ bytes 1 (omega arith) in
      rw (a, b) (two_back x)

  -- a row of them, one a station
  row_back : (at : ℕ) (row : List ℕ) → at + 16 ≤ kept_length → length row ≡ max_stations
      → ((i r : ℕ) → i < max_stations → r < 2 → get_or (encoded s) (at + 2 * i + r) 0 ≡ get_or (in_two (get_or row i 0)) r 0)
      → values (λ i. half place (kept_offset j + at + 2 * i)) max_stations ≡ row
  row_back at row fits long bytes =
      ext_get_or 0 _ row (length_values _ max_stations ∙ sym long)
      (λ i l.
      let k : i < max_stations = omega (arith, length_values (λ i. half place (kept_offset j + at + 2 * i)) max_stations) in
      let e : kept_offset j + at + 2 * i ≡ kept_offset j + (at + 2 * i) = omega arith in
      get_or_values _ max_stations i 0 k ∙ rw e (half_back (at + 2 * i) (get_or row i 0) (omega arith) (λ r m. bytes i r k m)))

  priority_back : (i : ℕ) → i < max_stations → lowered (half place (kept_offset j + 144 + 2 * i)) ≡ priority s i
  priority_back i l =
      let e : kept_offset j + 144 + 2 * i ≡ kept_offset j + (144 + 2 * i) = omega arith in
      rw (e, half_back (144 + 2 * i) (raised (priority s i)) (omega arith) (λ r m. priority_byte s held i r l m))
      (lowered_raised (priority s i) (high_enough list s known i l))

  last_back : (i at : ℕ) → i < 8 → at ≡ kept_offset j + 176 + i → get_or place at 0 ≡ get_or (last_bytes s) i 0
  last_back i at l e = here (176 + i) at (omega arith) (omega arith) ∙ last_byte s held i _ refl

  vars_are : (kept_state place j).vars ≡ s.vars
  unfolding kept_state
  vars_are =
      ext_get_or 0 _ s.vars (length_values _ variables ∙ sym held.vars)
      (λ v l.
      let k : v < variables = omega (arith, length_values (λ v. word place (kept_offset j + 4 * v)) variables) in
      get_or_values _ variables v 0 k ∙ var_back v k)

  positions_are : (kept_state place j).positions ≡ s.positions
  unfolding kept_state
  positions_are = row_back 128 s.positions (omega arith) held.positions (position_byte s held)

  counts_are : (kept_state place j).counts ≡ s.counts
  unfolding kept_state
  counts_are = row_back 160 s.counts (omega arith) held.counts (count_byte s held)

  priorities_are : (kept_state place j).priorities ≡ s.priorities
  unfolding kept_state
  priorities_are =
      ext_get_or (pos 0) _ s.priorities (length_values _ max_stations ∙ sym held.priorities)
      (λ i l.
      let k : i < max_stations = omega (arith, length_values (λ i. lowered (half place (kept_offset j + 144 + 2 * i))) max_stations) in
      get_or_values _ max_stations i (pos 0) k ∙ priority_back i k)

  steps_are : half place (kept_offset j + 178) ≡ s.m
  steps_are =
      let a = last_back 2 (kept_offset j + 178) (omega arith) (omega arith) in
      let b = last_back 3 (kept_offset j + 178 + 1) (omega arith) (omega arith) in
      rw (a, b) (two_back s.m)

  all_zero : kept_zeros place j ≡ true
  unfolding kept_zeros
  all_zero =
      each_all _ 4 (λ i l. eq-eqb _ 0 (last_back (4 + i) (kept_offset j + 180 + i) (omega arith) (omega arith) ∙ end_zero s i))

pub kept_back : KeptBack
unfolding kept_state
kept_back list kept s j held known room =
    let vars = vars_are list kept s j held known room in
    let positions = positions_are list kept s j held known room in
    let priorities = priorities_are list kept s j held known room in
    let counts = counts_are list kept s j held known room in
    let n = last_back list kept s j held known room 0 (kept_offset j + 176) (omega arith) (omega arith) in
    let b = last_back list kept s j held known room 1 (kept_offset j + 177) (omega arith) (omega arith) in
    let m = steps_are list kept s j held known room in
    record {
      state_is = λ i. record {
        vars = vars i;
        positions = positions i;
        priorities = priorities i;
        counts = counts i;
        n = n i;
        b = b i;
        m = m i;
      };
      zeros_are = all_zero list kept s j held known room;
    }
