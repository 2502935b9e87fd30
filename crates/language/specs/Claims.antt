-- The written sequence: the list built of an accepted file, where the file is bytes, steps as document 002 says that the file's program
-- does, with the pick order left out. These are claims, and proofs/Meant.antt and proofs/Begun.antt show them.
use Rattle.std.specs.Prelude.{◌≡◌, ◌↔◌, true, List, map, ℕ, ◌<◌, length, get_or, replicate}
use Rattle.rules.specs.Words.{values}
use Rattle.rules.specs.Names.{AWAIT, STOP, variables}
use Rattle.rules.specs.Records.{ListRecord, list_record_at, list_count, Pick}
use Rattle.rules.specs.Trees.{nothing, stations_of, initial_part}
use Rattle.rules.specs.List.{outside}
use Rattle.rules.specs.State.{State, position, sound_state}
use Rattle.rules.specs.Lent.{Lent}
use Rattle.rules.specs.Ready.{next_step, ready}
use Rattle.rules.specs.Start.{started}
use Rattle.rules.specs.Move.{body_run, step_vars, step_position}
use Rattle.rules.specs.Step.{stepped, step}
use Rattle.built.specs.Built.{built}
use Rattle.language.specs.Language.{await_end, Program, E, ◌before◌, ⟨◌∣◌⟩⟶⟨◌∣◌⟩, ⟨◌∣◌⟩⟶*⟨◌∣◌⟩, component, Moves, Enabled}
use Rattle.language.specs.Rests.{program_of, assignments, stands_for}

-- where a program can go it can go nowhere else
abbrev pub Determined : Type 0
Determined =
    (S T U : Program) (σ τ υ : List ℕ) → ⟨ S ∣ σ ⟩⟶⟨ T ∣ τ ⟩ → ⟨ S ∣ σ ⟩⟶⟨ U ∣ υ ⟩ → (T ≡ U) × (τ ≡ υ)

-- the record at a place of the list
abbrev pub built_record : List ℕ → ℕ → ListRecord
built_record file p = list_record_at (built file) p

-- each outside record of a station stands for one program, the rest of the station; a STOP stands for E, and no other record does
abbrev pub StopEnds : List ℕ → Type 0
StopEnds file =
    (j p : ℕ) → outside (built file) j p ≡ true → ((built_record file p).own.kind ≡ STOP) ↔ (stands_for file j p ≡ E)

-- what a station's INIT leads to stands for the station whole
abbrev pub InitWhole : List ℕ → Type 0
InitWhole file =
    (j : ℕ) → j < length (stations_of file)
    → stands_for file j (built_record file j).t1 ≡ program_of (get_or (stations_of file) j nothing)

-- an AWAIT stands for an await, then the rest; and its body's run by records ends with the values with which the body's program ends
abbrev pub BodyRuns : List ℕ → Type 0
BodyRuns file =
    (j p : ℕ) → outside (built file) j p ≡ true → (built_record file p).own.kind ≡ AWAIT
    → (S : Program) × (T : Program) × (stands_for file j p ≡ await_end (built_record file p).own S before T)
    × ((σ τ : List ℕ) → ⟨ S ∣ σ ⟩⟶*⟨ E ∣ τ ⟩ ↔ (τ ≡ body_run (built file) (list_count (built file)) (built_record file p).t1 σ))

-- "each of the first n positions is an outside record of its station", as in every sound state; and what they stand for, [P0 ∥ … ∥ Pn-1]
abbrev pub Standing : List ℕ → State → Type 0
Standing file s = (j : ℕ) → j < s.n → outside (built file) j (position s j) ≡ true

abbrev pub SoundStanding : List ℕ → Type 0
SoundStanding file = (s : State) → sound_state (built file) s ≡ true → Standing file s

abbrev pub programs : List ℕ → State → List Program
programs file s = values (λ j. stands_for file j (position s j)) s.n

-- a station is ready exactly when its component is enabled
abbrev pub ReadyEnabled : List ℕ → Type 0
ReadyEnabled file =
    (s : State) → Standing file s → (i : ℕ) → i < s.n
    → (ready (built file) s i ≡ true) ↔ Enabled (component (programs file s) i) s.vars

-- what a component can do is its station's step, and that alone
abbrev pub StationMoves : List ℕ → Type 0
StationMoves file =
    (s : State) → Standing file s → (i : ℕ) → i < s.n → (T : Program) (τ : List ℕ)
    → ⟨ component (programs file s) i ∣ s.vars ⟩⟶⟨ T ∣ τ ⟩
    ↔ ((ready (built file) s i ≡ true)
    × (T ≡ stands_for file i (step_position s.vars (next_step (built file) s i)))
    × (τ ≡ step_vars (built file) s.vars (next_step (built file) s i)))

-- the same of all components together: station i's step, whatever the reset, is the transition in which component i is active
abbrev pub StepMoves : List ℕ → Type 0
StepMoves file =
    (s : State) → Standing file s → (p : Pick) → p.station < s.n → (Ss : List Program) (τ : List ℕ)
    → Moves p.station (programs file s) s.vars Ss τ
    ↔ ((ready (built file) s p.station ≡ true)
    × (Ss ≡ programs file (stepped (built file) s p))
    × (τ ≡ (stepped (built file) s p).vars))

-- so every step taken is one
abbrev pub TakenMoves : List ℕ → Type 0
TakenMoves file =
    (s : State) (lent : Lent) (p : Pick) → (step (built file) s lent p).number ≡ 0
    → Moves p.station (programs file s) s.vars
    (programs file (step (built file) s lent p).state) (step (built file) s lent p).state.vars

-- at the start the stations are whole, and the initial part has been run from zeros
abbrev pub StartWhole : List ℕ → Type 0
StartWhole file =
    (b : ℕ) (resets : List ℕ)
    → (programs file (started (built file) b resets) ≡ map program_of (stations_of file))
    × ⟨ assignments (initial_part file) ∣ replicate variables 0 ⟩⟶*⟨ E ∣ (started (built file) b resets).vars ⟩
