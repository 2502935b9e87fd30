-- What is known where a call's tests refuse nothing, by name: one record a call, and one for what tests 7 and 8 leave to all that come
-- after them. These are definitions, and proofs/Passed.antt has that the tests say just this.
use Rattle.std.specs.Prelude.{◌≡◌, true, false, List, ℕ, ◌+◌, ◌*◌, ◌≤◌, ◌<◌, eqb, length, get_or}
use Rattle.rules.specs.Names.{max_steps, max_kept, kept_every, kept_length}
use Rattle.rules.specs.Records.{Pick}
use Rattle.rules.specs.List.{stations, sound_list}
use Rattle.rules.specs.State.{State, sound_state}
use Rattle.rules.specs.Lent.{Lent}
use Rattle.rules.specs.Kept.{kept_state, kept_zeros, kept_right}
use Rattle.rules.specs.Ready.{ready, lowest}
use Rattle.rules.specs.Undo.{starts_right, nearest, replayed_near}

-- none of 7 and 8
pub record Known (list : List ℕ) (s : State) : Type 0 where
  pub of_list : sound_list list ≡ true
  pub of_state : sound_state list s ≡ true

-- the buffer can hold 64 kept states
abbrev pub KeptRoom : Lent → Type 0
KeptRoom lent = kept_length * max_kept ≤ length lent.kept

-- START takes a sound list, "exactly n reset bytes", none above B, a log with room for the start records, and room for the kept states: none of
-- 7, 13, 6 and 6
pub record CanStart (list : List ℕ) (b : ℕ) (resets : List ℕ) (lent : Lent) : Type 0 where
  pub of_list : sound_list list ≡ true
  pub count : length resets ≡ stations list
  pub within : (j : ℕ) → j < stations list → get_or resets j 0 ≤ b
  pub room : 2 * stations list ≤ length lent.log
  pub kept_room : KeptRoom lent

-- what a step needs whatever its pick: none of 7, 8, 9, 6 and 6 refuses it
pub record CanStep (list : List ℕ) (s : State) (lent : Lent) : Type 0 where
  pub of_list : sound_list list ≡ true
  pub of_state : sound_state list s ≡ true
  pub steps_left : s.m < max_steps
  pub room : 2 * (s.n + s.m + 1) ≤ length lent.log
  pub kept_room : KeptRoom lent

-- what its pick needs: none of 10, 16, 11, 12 and 13
pub record CanPick (list : List ℕ) (s : State) (p : Pick) : Type 0 where
  pub station : p.station < s.n
  pub enabled : ready list s p.station ≡ true
  pub in_turn : lowest list s p.station ≡ true
  pub reset : p.reset ≤ s.b

-- what the kept state that an undo uses has to be: not 8
pub record RightKept (list kept : List ℕ) (b j : ℕ) : Type 0 where
  pub zeros : kept_zeros kept j ≡ true
  pub of_state : sound_state list (kept_state kept j) ≡ true
  pub steps : (kept_state kept j).m ≡ kept_every * j
  pub b_is : (kept_state kept j).b ≡ b

-- what an undo needs to begin its replay: none of 7, 8, 14 and 6, no 8 of the kept state that it uses, if it uses one, and no 15 of the log's
-- length or, if it uses none, of the start records
pub record CanReplay (list : List ℕ) (s : State) (lent : Lent) : Type 0 where
  pub of_list : sound_list list ≡ true
  pub of_state : sound_state list s ≡ true
  pub some_steps : 0 < s.m
  pub kept_room : KeptRoom lent
  pub kept_used : eqb (nearest s.m) 0 ≡ false → kept_right list lent.kept s.b (nearest s.m) ≡ true
  pub room : 2 * (s.n + s.m) ≤ length lent.log
  pub starts : eqb (nearest s.m) 0 ≡ true → starts_right list s.b lent.log ≡ true

-- and to end it
pub record CanUndo (list : List ℕ) (s : State) (lent : Lent) : Type 0 where
  pub before : CanReplay list s lent
  pub replays : (replayed_near list lent s.b s.m).number ≡ 0
