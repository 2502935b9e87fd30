-- START. These are definitions.
use Rattle.std.specs.Prelude.{ℕ, zero, suc, ◌-◌, ◌*◌, Bool, not, ◌||◌, List, [], ◌∷◌, ◌++◌, map, eqb, leb, ltb, length, get_or, replicate, pos, if◌then◌else◌}
use Rattle.rules.specs.Words.{each, values, written, Test, ◌refuses◌at◌, refusal}
use Rattle.rules.specs.Names.{LIST, RESET, ROOM, variables, max_stations}
use Rattle.rules.specs.Records.{list_record_at}
use Rattle.rules.specs.List.{stations, initials, sound_list}
use Rattle.rules.specs.Values.{assigned}
use Rattle.rules.specs.State.{State, stepless, no_counts, zeros}
use Rattle.rules.specs.Lent.{Lent}
use Rattle.rules.specs.Kept.{kept_short}

-- variables "begin at 0": so many initial records are run, from a place on
unfoldable pub initial_run : List ℕ → ℕ → ℕ → List ℕ → List ℕ
initial_run list place zero vars = vars
initial_run list place (suc count) vars =
    initial_run list (suc place) count (assigned vars (list_record_at list place).own)

-- "It runs the initial part and sets priorities to the resets": the state with no steps; each station stands at its INIT's t1, and none was
-- passed over
unfoldable pub started : List ℕ → ℕ → List ℕ → State
started list b resets =
    let n = stations list in
    stepless
    (initial_run list n (initials list) (replicate variables 0))
    (values (λ j. (list_record_at list j).t1) n ++ replicate (max_stations - n) 0)
    (map pos resets ++ replicate (max_stations - n) (pos 0))
    no_counts n b

-- "n start records": station j and its reset, from station j on
unfoldable pub start_records : ℕ → List ℕ → List ℕ
start_records j [] = []
start_records j (reset ∷ resets) = j ∷ reset ∷ start_records (suc j) resets

-- START writes them at the log's beginning, and nothing of the kept states
abbrev pub with_starts : Lent → List ℕ → Lent
with_starts lent resets = record { log = written lent.log 0 (start_records 0 resets); kept = lent.kept }

pub record Started : Type 0 where
  pub number : ℕ
  pub state : State
  pub lent : Lent

-- "count not n or one above B"
abbrev pub wrong_resets : List ℕ → ℕ → List ℕ → Bool
wrong_resets list b resets = not (eqb (length resets) (stations list)) || not (each (λ j. leb (get_or resets j 0) b) (length resets))

-- "START takes the list, B, exactly n reset bytes and a log buffer", and the kept states' buffer. Its order is 7, 13, 6, and document 02's 6
-- "after the log's"
abbrev pub start_tests : List ℕ → ℕ → List ℕ → Lent → List Test
start_tests list b resets lent =
    (not (sound_list list) refuses LIST at 0)
    ∷ (wrong_resets list b resets refuses RESET at 0)
    ∷ (ltb (length lent.log) (2 * stations list) refuses ROOM at 0)
    ∷ (kept_short lent.kept refuses ROOM at 0)
    ∷ []

-- "A refusal answers its number and … (start and lights: all zeros) and writes to no lent buffer"
unfoldable pub start : List ℕ → ℕ → List ℕ → Lent → Started
start list b resets lent =
    let number = refusal (start_tests list b resets lent) in
    if eqb number 0
    then record { number = 0; state = started list b resets; lent = with_starts lent resets }
    else record { number = number; state = zeros; lent = lent }
