-- The standing steps of a history as a computation of the file's program, in document 002's sense, whose run is checked by FAIR at every
-- position. These are definitions.
use Rattle.std.specs.Prelude.{◌≡◌, ◌↔◌, true, List, map, ℕ, ◌≤◌, ◌<◌, get_or, replicate, pos}
use Rattle.rules.specs.Names.{variables}
use Rattle.rules.specs.Records.{Pick}
use Rattle.rules.specs.Trees.{stations_of, initial_part}
use Rattle.rules.specs.State.{State, priority}
use Rattle.rules.specs.Ready.{ready}
use Rattle.built.specs.Built.{built}
use Rattle.fair.specs.Fair.{Sch, Update}
use Rattle.language.specs.Language.{E, ⟨◌∣◌⟩⟶*⟨◌∣◌⟩, component, Moves, Enabled}
use Rattle.language.specs.Rests.{program_of, assignments}
use Rattle.language.specs.Claims.{programs}
use Rattle.rules.specs.History.{Steps, begun, taken, top}

-- the initial part has been run from zeros, the stations are whole, and the scheduling variables are the resets, each from 0 to B
pub record Starts (file : List ℕ) (resets : List ℕ) (s : State) : Type 0 where
  pub initial : ⟨ assignments (initial_part file) ∣ replicate variables 0 ⟩⟶*⟨ E ∣ s.vars ⟩
  pub whole : programs file s ≡ map program_of (stations_of file)
  pub resets_are : (j : ℕ) → j < s.n → (priority s j ≡ pos (get_or resets j 0)) × (get_or resets j 0 ≤ s.b)

-- a transition in which one component is active; the selection is the set of components enabled before it and the active one, and FAIR's
-- SCH and UPDATE hold of it
pub record Selects (file : List ℕ) (s t : State) (p : Pick) : Type 0 where
  pub moves : Moves p.station (programs file s) s.vars (programs file t) t.vars
  pub enabled : (i : ℕ) → i < s.n → (ready (built file) s i ≡ true) ↔ Enabled (component (programs file s) i) s.vars
  pub checked : Sch s.n (ready (built file) s) (priority s) p.station
  pub updated : Update s.n (ready (built file) s) s.b (priority s) (priority t) p.station p.reset

-- from the start to the top, step by step
abbrev pub Computation : List ℕ → Steps → Type 0
Computation file (begun b resets s) = Starts file resets s
Computation file (taken steps p s) = Computation file steps × Selects file (top steps) s p
