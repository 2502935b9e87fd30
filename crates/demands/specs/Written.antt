-- "on a list made from a sequence, with the pick order rubbed out, it is that step of the written sequence", of any seven calls. These are
-- claims, and proofs/Written.antt shows them of the rules' calls.
use Rattle.std.specs.Prelude.{◌≡◌, ◌↔◌, true, List, ℕ, ◌+◌, ◌*◌, ◌≤◌, ◌<◌, length, get_or}
use Rattle.std.proofs.Math.Option.{some}
use Rattle.std.specs.Int.Signed.{le_z}
use Rattle.rules.specs.Records.{Record, records, Pick}
use Rattle.rules.specs.Trees.{Statements, initial_part, stations_of}
use Rattle.rules.specs.Build.{list_records}
use Rattle.rules.specs.State.{State, priority}
use Rattle.rules.specs.Lent.{Lent}
use Rattle.rules.specs.Calls.{Seven}
use Rattle.rules.specs.History.{Call, Steps, history}
use Rattle.reading.specs.Reading.{flat_file, Sets, Stations}
use Rattle.reading.specs.Accepted.{Reads}
use Rattle.built.specs.Built.{built, Sound}
use Rattle.built.specs.Targets.{Spot, Has, Targets, Closing}
use Rattle.laws.specs.Passed.{KeptRoom, CanStep}
use Rattle.language.specs.Language.{Program, component, Moves, Enabled}
use Rattle.language.specs.Claims.{StopEnds, InitWhole, BodyRuns, SoundStanding, programs, ReadyEnabled, StationMoves}
use Rattle.demands.specs.Computation.{Starts, Computation}

-- the file has one reading
abbrev pub OneReading : List ℕ → Type 0
OneReading file =
    (initial : List Record) (stations : List Statements) → Sets initial → Stations stations
    → flat_file initial stations ≡ records file → (initial ≡ initial_part file) × (stations ≡ stations_of file)

-- its list has each statement's record where the statement stands, with the targets of that place: "After the last step of a loop comes its
-- WHILE", also where the loop ends a branch
pub record Laid (file : List ℕ) : Type 0 where
  pub targets : (j p : ℕ) (x : Statements) → Has 0 (length (stations_of file) + length (initial_part file)) (stations_of file) j p x
      → Targets (list_records file) j p x
  pub closing : (x : Statements) (w : Spot) → Closing x w

-- with a reset of at most B for each station, and room in the log and for the kept states, its list is started
abbrev pub StartThere : Seven → List ℕ → Type 0
StartThere bench file =
    (b : ℕ) (resets : List ℕ) (lent : Lent) → length resets ≡ length (stations_of file)
    → ((j : ℕ) → j < length (stations_of file) → get_or resets j 0 ≤ b)
    → 2 * length (stations_of file) ≤ length lent.log → KeptRoom lent → (bench.start (built file) b resets lent).number ≡ 0

-- and then the initial part has been run from zeros, the stations are whole, and the priorities are the resets
abbrev pub FileStarts : Seven → List ℕ → Type 0
FileStarts bench file =
    (b : ℕ) (resets : List ℕ) (lent : Lent) → (bench.start (built file) b resets lent).number ≡ 0
    → Starts file resets (bench.start (built file) b resets lent).state

-- a transition of the written sequence, the pick's station active, which the pick order and the reset allow: no enabled component has a
-- lower priority number
pub record Allowed (file : List ℕ) (s : State) (p : Pick) (Ss : List Program) (τ : List ℕ) : Type 0 where
  pub moves : Moves p.station (programs file s) s.vars Ss τ
  pub lowest : (k : ℕ) → k < s.n → Enabled (component (programs file s) k) s.vars → le_z (priority s p.station) (priority s k) ≡ true
  pub reset : p.reset ≤ s.b

-- there is such a transition exactly when STEP answers 0, and then the state after is it
pub record StepIs (bench : Seven) (file : List ℕ) (s : State) (lent : Lent) (p : Pick) : Type 0 where
  pub exactly_when : ((bench.step (built file) s lent p).number ≡ 0) ↔ ((Ss : List Program) × (τ : List ℕ) × Allowed file s p Ss τ)
  pub is_it : (Ss : List Program) (τ : List ℕ) → Allowed file s p Ss τ
      → (Ss ≡ programs file (bench.step (built file) s lent p).state) × (τ ≡ (bench.step (built file) s lent p).state.vars)

pub record AsWritten (bench : Seven) (file : List ℕ) : Type 0 where
  -- the file has a reading, and no other
  pub reads : Reads file
  pub one_reading : OneReading file
  -- its list is laid as the rules say and sound, and runs from the file's start
  pub laid : Laid file
  pub sound : Sound file
  pub start_there : StartThere bench file
  pub file_starts : FileStarts bench file
  -- what the places of the list stand for
  pub stop_ends : StopEnds file
  pub init_whole : InitWhole file
  pub body_runs : BodyRuns file
  pub sound_standing : SoundStanding file
  pub ready_enabled : ReadyEnabled file
  pub station_moves : StationMoves file
  -- a step is that step of the written sequence
  pub step_is : (s : State) (lent : Lent) (p : Pick) → CanStep (built file) s lent → StepIs bench file s lent p
  -- the standing steps of any history are a computation of the program, whose run FAIR checks at every position
  pub computes : (s : State) (lent : Lent) (calls : List Call) (steps : Steps)
      → (history bench (built file) s lent calls).standing ≡ some steps → Computation file steps
