-- Why a station was not picked: document 02's T-04. These are definitions.
use Rattle.std.specs.Prelude.{ℕ, List, [], ◌∷◌, eqb, ltb, get_or, if◌then◌else◌}
use Rattle.rules.specs.Words.{first, refusal}
use Rattle.rules.specs.Names.{COMPONENT, NOT_READY, TURN, ENDED}
use Rattle.rules.specs.Records.{Record, list_record_at}
use Rattle.rules.specs.State.{State}
use Rattle.rules.specs.Ready.{Readiness, is_ready, has_ended, waits_at, is_absent, readiness, lowest}
use Rattle.rules.specs.Lights.{in_turn, lights_tests}

-- a variable that a condition names, and its value
pub record Seen : Type 0 where
  pub variable : ℕ
  pub value : ℕ

-- "gives one reason: ended; waiting, with the record, the variable or variables and their values; behind, with the lowest-numbered ready
-- station of lowest priority; or may be picked"; of a station that the list has not it gives none of these
pub data Reason : Type 0 where
  because_ended : Reason
  because_waiting : ℕ → Seen → Reason
  because_waiting_two : ℕ → Seen → Seen → Reason
  because_behind : ℕ → Reason
  may_be_picked : Reason
  because_absent : Reason

-- what is answered: a number and what goes with it, and zeros for what does not. Of the two variables and their values the first `count` are
-- named
pub record Why : Type 0 where
  pub number : ℕ
  pub ahead : ℕ
  pub place : ℕ
  pub count : ℕ
  pub variables : List ℕ
  pub values : List ℕ

-- a number alone
abbrev pub bare : ℕ → Why
bare number = record { number = number; ahead = 0; place = 0; count = 0; variables = 0 ∷ 0 ∷ []; values = 0 ∷ 0 ∷ [] }

-- the number and the values that each reason stands for: the number is that with which the pick of the station is refused
abbrev pub said : Reason → Why
said because_ended = bare ENDED
said (because_waiting place v) =
    record { number = NOT_READY; ahead = 0; place = place; count = 1; variables = v.variable ∷ 0 ∷ []; values = v.value ∷ 0 ∷ [] }
said (because_waiting_two place v w) =
    record {
      number = NOT_READY;
      ahead = 0;
      place = place;
      count = 2;
      variables = v.variable ∷ w.variable ∷ [];
      values = v.value ∷ w.value ∷ [];
    }
said (because_behind i) =
    record { number = TURN; ahead = i; place = 0; count = 0; variables = 0 ∷ 0 ∷ []; values = 0 ∷ 0 ∷ [] }
said may_be_picked = bare 0
said because_absent = bare COMPONENT

-- what a variable has
abbrev pub seen : List ℕ → ℕ → Seen
seen vars v = record { variable = v; value = get_or vars v 0 }

-- of a station that waits at this record: conditions 0 to 3 name variable b, and 4 to 7 variables b and k
unfoldable pub waits_for : List ℕ → Record → ℕ → Reason
waits_for vars r place =
    if ltb r.op 4 then because_waiting place (seen vars r.b)
    else because_waiting_two place (seen vars r.b) (seen vars r.k)

-- "the lowest-numbered ready station of lowest priority"; n where none is ready
unfoldable pub first_in_turn : List ℕ → State → ℕ
first_in_turn list s = first (in_turn list s) s.n

-- station j's, by what its readiness is
abbrev pub reason_by : List ℕ → State → ℕ → Readiness → Reason
reason_by list s j is_ready = if lowest list s j then may_be_picked else because_behind (first_in_turn list s)
reason_by list s j has_ended = because_ended
reason_by list s j (waits_at place) = waits_for s.vars (list_record_at list place).own place
reason_by list s j is_absent = because_absent

-- and of any number at all
unfoldable pub reason : List ℕ → State → ℕ → Reason
reason list s j = reason_by list s j (readiness list s j)

-- "Refusals: 7, 8, 10 in that order": the tests that LIGHTS makes, and then the reason, which stands for 10 where the list has no such station
unfoldable pub why : List ℕ → State → ℕ → Why
why list s j =
    let number = refusal (lights_tests list s) in
    if eqb number 0 then said (reason list s j) else bare number
