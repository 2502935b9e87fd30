-- A sound state stays sound by a step and by an undo, and a start's is sound; and so with what a state holds; and how high the priorities and the
-- counts of a sound state are at most. These are claims, and proofs/Held.antt, proofs/Kept.antt, proofs/Begun.antt and proofs/Withdrawn.antt show
-- them.
use Rattle.std.specs.Prelude.{◌≡◌, true, List, ℕ, ◌+◌, ◌≤◌, ◌<◌, length, pos}
use Rattle.std.specs.Int.Signed.{le_z}
use Rattle.rules.specs.Names.{variables, max_stations}
use Rattle.rules.specs.Records.{Pick}
use Rattle.rules.specs.State.{State, priority, count, sound_state}
use Rattle.rules.specs.Lent.{Lent}
use Rattle.rules.specs.Start.{start}
use Rattle.rules.specs.Step.{step}
use Rattle.rules.specs.Undo.{undo}

-- "A run state holds 32 variables, 8 positions, 8 priorities", and "eight counts"
pub record Held (s : State) : Type 0 where
  pub vars : length s.vars ≡ variables
  pub positions : length s.positions ≡ max_stations
  pub priorities : length s.priorities ≡ max_stations
  pub counts : length s.counts ≡ max_stations

-- taken or refused, a step answers a sound state
abbrev pub StepSound : Type 0
StepSound =
    (list : List ℕ) (s : State) (lent : Lent) (p : Pick) → Held s → sound_state list s ≡ true
    → sound_state list (step list s lent p).state ≡ true

abbrev pub StepHeld : Type 0
StepHeld = (list : List ℕ) (s : State) (lent : Lent) (p : Pick) → Held s → Held (step list s lent p).state

-- a start that is not refused
abbrev pub StartSound : Type 0
StartSound =
    (list : List ℕ) (b : ℕ) (resets : List ℕ) (lent : Lent) → (start list b resets lent).number ≡ 0
    → (sound_state list (start list b resets lent).state ≡ true) × Held (start list b resets lent).state

-- and an undo, taken or refused: one that is taken makes its state anew
abbrev pub UndoSound : Type 0
UndoSound = (list : List ℕ) (s : State) (lent : Lent) → sound_state list s ≡ true → sound_state list (undo list s lent).state ≡ true

-- document 01: in a sound state "each priority is at most B"
abbrev pub PriorityBound : Type 0
PriorityBound = (list : List ℕ) (s : State) → sound_state list s ≡ true → (j : ℕ) → j < s.n → le_z (priority s j) (pos s.b) ≡ true

-- document 02, T-05: and of the counts "none exceeds B+n-1"
abbrev pub CountBound : Type 0
CountBound = (list : List ℕ) (s : State) → sound_state list s ≡ true → (j : ℕ) → j < s.n → count s j + 1 ≤ s.b + s.n
