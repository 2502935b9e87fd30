-- Undo after any history on which a start stands. These are claims, and proofs/Back.antt shows them.
use Rattle.std.specs.Prelude.{◌≡◌, ◌≢◌, true, List, ◌++◌, ℕ, suc, ◌*◌, ◌≤◌}
use Rattle.std.proofs.Math.Option.{some}
use Rattle.rules.specs.Names.{ROOM, STATE, EMPTY, LOG, kept_every}
use Rattle.rules.specs.Records.{Pick}
use Rattle.rules.specs.List.{stations}
use Rattle.rules.specs.State.{State, sound_state}
use Rattle.rules.specs.Lent.{Lent}
use Rattle.rules.specs.Undo.{Undone, replayed, undo_from_start}
use Rattle.rules.specs.Calls.{Seven}
use Rattle.rules.specs.History.{Call, Steps, begun, taken, top, start_b, height, state_at, spelled, Now, history}
use Rattle.laws.specs.Passed.{KeptRoom}
use Rattle.kept.specs.Keeps.{HasState}

-- each state on the stack is what START, or STEP from the state below, answered unrefused
pub data Made (bench : Seven) (list : List ℕ) : Steps → Type 0 where
  by_start : (b : ℕ) (resets : List ℕ) (lent : Lent) → (bench.start list b resets lent).number ≡ 0
      → Made bench list (begun b resets (bench.start list b resets lent).state)
  by_step : {steps : Steps} (p : Pick) (lent : Lent) → Made bench list steps → (bench.step list (top steps) lent p).number ≡ 0
      → Made bench list (taken steps p (bench.step list (top steps) lent p).state)

-- what undo has to answer: the state below the top, whole; where there is none, EMPTY and the state given
abbrev pub below : Steps → Undone
below (begun b resets s) = record { number = EMPTY; state = s }
below (taken steps p s) = record { number = 0; state = top steps }

-- each kept place up to the steps that stand holds the state with its steps standing
abbrev pub KeptAll : List ℕ → Steps → Type 0
KeptAll kept steps = (j : ℕ) → 1 ≤ j → kept_every * j ≤ height steps → HasState kept j (state_at steps (kept_every * j))

pub record Back (bench : Seven) (list : List ℕ) (now : Now) (steps : Steps) : Type 0 where
  -- the last state answered is the top of the stack; its n is the list's, its B the start's, its m counts the steps on the start, and it
  -- is sound
  pub last : now.state ≡ top steps
  pub stations_are : now.state.n ≡ stations list
  pub b_is : now.state.b ≡ start_b steps
  pub counted : now.state.m ≡ height steps
  pub sound : sound_state list now.state ≡ true
  pub made : Made bench list steps
  -- the log opens with the records of what stands
  pub logged : (rest : List ℕ) × (now.lent.log ≡ spelled steps ++ rest)
  -- replaying the first n+m records gives the state: undo from one step more would
  pub replays : replayed list now.lent.log now.state.b (suc now.state.m) ≡ record { number = 0; state = now.state }
  -- the kept states have their room, and are those of the run
  pub kept_room : KeptRoom now.lent
  pub kept : KeptAll now.lent.kept steps
  -- undo answers the state below, or EMPTY, as document 01's does, which steps everything again; never ROOM, STATE or LOG
  pub undone : bench.undo list now.state now.lent ≡ below steps
  pub as_from_start : bench.undo list now.state now.lent ≡ undo_from_start list now.state now.lent
  pub never_room : (bench.undo list now.state now.lent).number ≢ ROOM
  pub never_state : (bench.undo list now.state now.lent).number ≢ STATE
  pub never_log : (bench.undo list now.state now.lent).number ≢ LOG

abbrev pub UndoBelow : Seven → Type 0
UndoBelow bench =
    (list : List ℕ) (s : State) (lent : Lent) (calls : List Call) (steps : Steps)
    → (history bench list s lent calls).standing ≡ some steps → Back bench list (history bench list s lent calls) steps
