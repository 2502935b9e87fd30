-- What is claimed of a program that says why a station was not picked, in document 01's words: each reason is given exactly where it is the
-- true one, and "may be picked" exactly where STEP can take a step of the station. These are claims of any such program: proofs/True.antt shows
-- those about reasons of the rules' `why`, and that no other program meets them, and proofs/Steps.antt those about STEP.
use Rattle.std.specs.Prelude.{◌≡◌, ◌↔◌, true, false, List, ℕ, ◌≤◌, ◌<◌, get_or}
use Rattle.std.specs.Int.Signed.{le_z}
use Rattle.rules.specs.Names.{STOP, LIST, STATE, max_steps}
use Rattle.rules.specs.List.{sound_list}
use Rattle.rules.specs.State.{State, position, priority, sound_state}
use Rattle.rules.specs.Lent.{Lent}
use Rattle.rules.specs.Ready.{next_step, ready}
use Rattle.rules.specs.Step.{step}
use Rattle.rules.specs.Why.{Why, Reason, because_ended, because_waiting, because_waiting_two, because_behind, may_be_picked, because_absent, bare, said, Seen}
use Rattle.laws.specs.Passed.{Known, CanStep}
use Rattle.laws.specs.Tells.{Waits}
use Rattle.fair.specs.Charged.{Chosen}

-- a program that is asked, right or wrong: an answer for each list, state and station
abbrev pub Asked : Type 0
Asked = List ℕ → State → ℕ → Why

-- "the lowest-numbered ready station of lowest priority": i is ready, no ready station has a lower priority number, and of no station numbered
-- below i is that so
pub record Ahead (list : List ℕ) (s : State) (i : ℕ) : Type 0 where
  pub chosen : Chosen list s i
  pub numbered_lowest : (k : ℕ) → k < i → Chosen list s k → ⊥

-- station j waits at record p: it stands at an AWAIT whose condition fails
pub record Held (list : List ℕ) (s : State) (j p : ℕ) : Type 0 where
  pub station : j < s.n
  pub waits : Waits s.vars (next_step list s j)
  pub at : p ≡ position s j

-- what is told of a variable: its number, and the value that it has
pub record Shows (vars : List ℕ) (variable : ℕ) (v : Seen) : Type 0 where
  pub number : v.variable ≡ variable
  pub value : v.value ≡ get_or vars variable 0

-- station j is behind station i: it is ready, and i, which is ahead of all, has a lower priority number
pub record Behind (list : List ℕ) (s : State) (j i : ℕ) : Type 0 where
  pub station : j < s.n
  pub enabled : ready list s j ≡ true
  pub ahead : Ahead list s i
  pub lower : le_z (priority s j) (priority s i) ≡ false

-- the reason is the true one of station j
abbrev pub Truly : List ℕ → State → ℕ → Reason → Type 0
Truly list s j because_ended = (j < s.n) × ((next_step list s j).own.kind ≡ STOP)
Truly list s j (because_waiting p v) =
    let r = (next_step list s j).own in
    Held list s j p × (r.op < 4) × Shows s.vars r.b v
Truly list s j (because_waiting_two p v w) =
    let r = (next_step list s j).own in
    Held list s j p × (4 ≤ r.op) × Shows s.vars r.b v × Shows s.vars r.k w
Truly list s j (because_behind i) = Behind list s j i
Truly list s j may_be_picked = Chosen list s j
Truly list s j because_absent = s.n ≤ j

-- of a sound list and state, "each reason is given exactly when it is the true one"
abbrev pub TrueReasons : Asked → Type 0
TrueReasons why = (list : List ℕ) (s : State) (j : ℕ) → Known list s → (r : Reason) → (why list s j ≡ said r) ↔ Truly list s j r

-- some reason is the true one, and no second is, of any list and state whatever
abbrev pub OneReason : Type 0
OneReason =
    (list : List ℕ) (s : State) (j : ℕ) → (r : Reason) × Truly list s j r × ((q : Reason) → Truly list s j q → q ≡ r)

-- "Refusals: 7, 8": and then all but the number is zero. "10" is a reason's number, that of a station which the list has not
pub record Refuses (why : Asked) : Type 0 where
  pub of_list : (list : List ℕ) (s : State) (j : ℕ) → sound_list list ≡ false → why list s j ≡ bare LIST
  pub of_state : (list : List ℕ) (s : State) (j : ℕ) → sound_list list ≡ true → sound_state list s ≡ false → why list s j ≡ bare STATE

-- these two leave one program
abbrev pub NoOther : Asked → Type 0
NoOther rules = (why : Asked) → TrueReasons why → Refuses why → (list : List ℕ) (s : State) (j : ℕ) → why list s j ≡ rules list s j

-- the step of station j with this reset answers the number
abbrev pub Steps : List ℕ → State → Lent → ℕ → ℕ → ℕ → Type 0
Steps list s lent j reset number = (step list s lent (record { station = j; reset = reset })).number ≡ number

-- of STEP, "given room and m below 4,096"
pub record StepSays (why : Asked) (list : List ℕ) (s : State) (lent : Lent) (j : ℕ) : Type 0 where
  -- "may be picked" exactly where some reset has STEP take the step
  pub some_reset : (why list s j ≡ said may_be_picked) ↔ ((reset : ℕ) × Steps list s lent j reset 0)
  -- and then every reset up to B has
  pub every_reset : why list s j ≡ said may_be_picked → (reset : ℕ) → reset ≤ s.b → Steps list s lent j reset 0
  -- whatever the reason, its number is that which STEP answers, with every reset up to B
  pub same_number : (reset : ℕ) → reset ≤ s.b → Steps list s lent j reset (why list s j).number

abbrev pub StepsSay : Asked → Type 0
StepsSay why = (list : List ℕ) (s : State) (lent : Lent) (j : ℕ) → CanStep list s lent → StepSays why list s lent j

-- there is such room for every sound state with m below 4,096
abbrev pub RoomThere : Type 0
RoomThere = (list : List ℕ) (s : State) → Known list s → s.m < max_steps → (lent : Lent) × CanStep list s lent
