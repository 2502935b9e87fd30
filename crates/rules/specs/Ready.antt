-- "a station is ready when not at STOP and, if at AWAIT, its condition holds"; and what its readiness tells where it is not. These are
-- definitions.
use Rattle.std.specs.Prelude.{ℕ, Bool, true, false, ◌&&◌, not, List, eqb, ltb, if◌then◌else◌}
use Rattle.rules.specs.Words.{Answer, answer}
use Rattle.rules.specs.Names.{AWAIT, STOP, COMPONENT, NOT_READY, ENDED}
use Rattle.rules.specs.Records.{ListRecord, list_record_at}
use Rattle.rules.specs.Values.{holds}
use Rattle.rules.specs.State.{State, position, priority}
use Rattle.rules.specs.Turn.{lowest_of}

-- document 02, T-01: "Readiness itself should answer ready, ended, or waiting with the record number where it waits"; of a station that the
-- list has not it answers none of these
pub data Readiness : Type 0 where
  is_ready : Readiness
  has_ended : Readiness
  waits_at : ℕ → Readiness
  is_absent : Readiness

-- the number and the place that each of them stands for. Document 02, T-01: "16 ENDED … for a station at STOP", "11 is now for waiting
-- only"; and 10 for "station n or above"
abbrev pub told : Readiness → Answer
told is_ready = answer 0 0
told has_ended = answer ENDED 0
told (waits_at place) = answer NOT_READY place
told is_absent = answer COMPONENT 0

-- the record of a station's next step
abbrev pub next_step : List ℕ → State → ℕ → ListRecord
next_step list s j = list_record_at list (position s j)

-- of a station whose next step is this record, at this place: it has ended at a STOP, and waits at an AWAIT whose condition fails
unfoldable pub readiness_at : List ℕ → ListRecord → ℕ → Readiness
readiness_at vars e place =
    if eqb e.own.kind STOP then has_ended
    else if eqb e.own.kind AWAIT && not (holds vars e.own) then waits_at place
    else is_ready

-- of station j
unfoldable pub readiness : List ℕ → State → ℕ → Readiness
readiness list s j = if ltb j s.n then readiness_at s.vars (next_step list s j) (position s j) else is_absent

-- which of the three it is
abbrev pub says_ready : Readiness → Bool
says_ready is_ready = true
says_ready has_ended = false
says_ready (waits_at place) = false
says_ready is_absent = false

abbrev pub says_ended : Readiness → Bool
says_ended is_ready = false
says_ended has_ended = true
says_ended (waits_at place) = false
says_ended is_absent = false

abbrev pub says_waiting : Readiness → Bool
says_waiting is_ready = false
says_waiting has_ended = false
says_waiting (waits_at place) = true
says_waiting is_absent = false

-- "ready", "ended" and "waiting", of station j
unfoldable pub ready : List ℕ → State → ℕ → Bool
ready list s j = says_ready (readiness list s j)

unfoldable pub ended : List ℕ → State → ℕ → Bool
ended list s j = says_ended (readiness list s j)

unfoldable pub waiting : List ℕ → State → ℕ → Bool
waiting list s j = says_waiting (readiness list s j)

-- "the lowest priority number among the ready", of the state's own
unfoldable pub lowest : List ℕ → State → ℕ → Bool
lowest list s = lowest_of s.n (ready list s) (priority s)
