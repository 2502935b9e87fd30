-- What a station's readiness tells, in document 01's words; what a step's refusal then tells, and what a panel is told that asks. These are
-- claims: proofs/Ready.antt shows the first of every list and state, proofs/Told.antt the others.
use Rattle.std.specs.Prelude.{◌≡◌, ◌↔◌, ◌≢◌, Bool, true, false, List, ℕ, ◌≤◌, ◌<◌}
use Rattle.rules.specs.Words.{answer}
use Rattle.rules.specs.Names.{AWAIT, STOP, COMPONENT, NOT_READY, ENDED}
use Rattle.rules.specs.Records.{ListRecord, Pick}
use Rattle.rules.specs.Values.{holds}
use Rattle.rules.specs.State.{State, position}
use Rattle.rules.specs.Lent.{Lent}
use Rattle.rules.specs.Ready.{next_step, is_absent, waits_at, readiness, ready, ended, waiting}
use Rattle.rules.specs.Step.{step}
use Rattle.rules.specs.Asked.{asked}
use Rattle.rules.specs.Calls.{Seven}
use Rattle.laws.specs.Passed.{CanStep}

-- exactly one of three tests holds
pub data ExactlyOne : Bool → Bool → Bool → Type 0 where
  the_first : ExactlyOne true false false
  the_second : ExactlyOne false true false
  the_third : ExactlyOne false false true

-- a record at which a station goes: "not at STOP and, if at AWAIT, its condition holds"
abbrev pub Goes : List ℕ → ListRecord → Type 0
Goes vars e = (e.own.kind ≢ STOP) × (e.own.kind ≡ AWAIT → holds vars e.own ≡ true)

-- and one at which it waits: an AWAIT whose condition fails
abbrev pub Waits : List ℕ → ListRecord → Type 0
Waits vars e = (e.own.kind ≡ AWAIT) × (holds vars e.own ≡ false)

-- of a station of the list: it is exactly one of ready, ended and waiting; ready where it goes, ended at a STOP, waiting where it waits; and
-- the record number told is the one where it stands
pub record Tells (list : List ℕ) (s : State) (j : ℕ) : Type 0 where
  pub one_case : ExactlyOne (ready list s j) (ended list s j) (waiting list s j)
  pub ready_when : (ready list s j ≡ true) ↔ Goes s.vars (next_step list s j)
  pub ended_when : (ended list s j ≡ true) ↔ ((next_step list s j).own.kind ≡ STOP)
  pub waiting_when : (waiting list s j ≡ true) ↔ Waits s.vars (next_step list s j)
  pub waits_where : (p : ℕ) → (readiness list s j ≡ waits_at p) ↔ ((waiting list s j ≡ true) × (p ≡ position s j))

-- and a station from n on is none of the three
pub record ReadinessTells (list : List ℕ) (s : State) : Type 0 where
  pub of_station : (j : ℕ) → j < s.n → Tells list s j
  pub of_none : (j : ℕ) → s.n ≤ j
      → (readiness list s j ≡ is_absent) × (ready list s j ≡ false) × (ended list s j ≡ false) × (waiting list s j ≡ false)

-- of any seven calls: where none of 7, 8, 9 and 6 refuses a step, it answers 16 exactly where its station has ended, 11 exactly where it
-- waits, and 10 exactly where there is none
pub record StepTells (bench : Seven) (list : List ℕ) (s : State) (lent : Lent) (p : Pick) : Type 0 where
  pub ended_when : ((bench.step list s lent p).number ≡ ENDED) ↔ (CanStep list s lent × (ended list s p.station ≡ true))
  pub waiting_when : ((bench.step list s lent p).number ≡ NOT_READY) ↔ (CanStep list s lent × (waiting list s p.station ≡ true))
  pub none_when : ((bench.step list s lent p).number ≡ COMPONENT) ↔ (CanStep list s lent × (s.n ≤ p.station))

-- a panel that asks, of a sound list and state, is told the station's case and no other; and where it is told another number than 0, a step
-- that picks the station is refused with that number
pub record AskedTells (list : List ℕ) (s : State) (j : ℕ) : Type 0 where
  pub ready_when : (asked list s j ≡ answer 0 0) ↔ (ready list s j ≡ true)
  pub ended_when : (asked list s j ≡ answer ENDED 0) ↔ (ended list s j ≡ true)
  pub waiting_when : (p : ℕ) → (asked list s j ≡ answer NOT_READY p) ↔ ((waiting list s j ≡ true) × (p ≡ position s j))
  pub none_when : (asked list s j ≡ answer COMPONENT 0) ↔ (s.n ≤ j)
  pub step_refused : (lent : Lent) (reset : ℕ) → CanStep list s lent → (asked list s j).number ≢ 0
      → (step list s lent (record { station = j; reset = reset })).number ≡ (asked list s j).number
