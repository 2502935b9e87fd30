-- UNDO: "the state reached by replaying the first n+m-1 records", which document 02 has begin at a kept state. Document 01's own undo stands
-- beside it: where only these calls wrote what is lent, the two are one (crates/history). These are definitions.
use Rattle.std.specs.Prelude.{ℕ, zero, suc, ◌+◌, ◌-◌, ◌*◌, ◌/◌, Bool, ◌&&◌, not, List, [], ◌∷◌, ◌++◌, eqb, leb, ltb, length, if◌then◌else◌}
use Rattle.rules.specs.Words.{each, values, Test, ◌refuses◌at◌, refusal}
use Rattle.rules.specs.Names.{ROOM, LIST, STATE, EMPTY, LOG, kept_every}
use Rattle.rules.specs.Records.{pick_at}
use Rattle.rules.specs.List.{stations, sound_list}
use Rattle.rules.specs.State.{State, sound_state}
use Rattle.rules.specs.Lent.{Lent}
use Rattle.rules.specs.Kept.{kept_short, kept_state, kept_right}
use Rattle.rules.specs.Start.{started}
use Rattle.rules.specs.Step.{picked}

pub record Undone : Type 0 where
  pub number : ℕ
  pub state : State

-- so many steps of a log, from record i on, each by step's own tests of a pick
unfoldable pub replay : List ℕ → List ℕ → ℕ → ℕ → State → Undone
replay list log i zero s = record { number = 0; state = s }
replay list log i (suc count) s =
    let a = picked list s (pick_at log i) in
    if eqb a.number 0 then replay list log (suc i) count a.state else record { number = a.number; state = a.state }

-- "a start record out of place or above B" is what it is not
unfoldable pub starts_right : List ℕ → ℕ → List ℕ → Bool
starts_right list b log =
    each (λ j. eqb (pick_at log j).station j && leb (pick_at log j).reset b) (stations list)

-- the start records' state
unfoldable pub restarted : List ℕ → List ℕ → ℕ → State
restarted list log b = started list b (values (λ j. (pick_at log j).reset) (stations list))

-- and m-1 steps replayed from it: document 01's "it depends on list, log, B and m only"
unfoldable pub replayed : List ℕ → List ℕ → ℕ → ℕ → Undone
replayed list log b m = replay list log (stations list) (m - 1) (restarted list log b)

-- "undo: log under 2(n+m) bytes, a start record out of place or above B, or a replay refused". Document 01's order is 7, 8, 14, 15
abbrev pub from_start_tests : List ℕ → State → Lent → List Test
from_start_tests list s lent =
    (not (sound_list list) refuses LIST at 0)
    ∷ (not (sound_state list s) refuses STATE at 0)
    ∷ (eqb s.m 0 refuses EMPTY at 0)
    ∷ (ltb (length lent.log) (2 * (s.n + s.m)) refuses LOG at 0)
    ∷ (not (starts_right list s.b lent.log) refuses LOG at 0)
    ∷ (not (eqb (replayed list lent.log s.b s.m).number 0) refuses LOG at 0)
    ∷ []

-- document 01's undo, which steps everything again
unfoldable pub undo_from_start : List ℕ → State → Lent → Undone
undo_from_start list s lent =
    let number = refusal (from_start_tests list s lent) in
    if eqb number 0 then record { number = 0; state = (replayed list lent.log s.b s.m).state }
    else record { number = number; state = s }

-- "from the nearest one at or below the target, or below 64 from the start records": the kept place that m steps less one are undone from, 0
-- for the start records
abbrev pub nearest : ℕ → ℕ
nearest m = (m - 1) / kept_every

-- the state there
abbrev pub nearest_state : List ℕ → Lent → ℕ → ℕ → State
nearest_state list lent b q = if eqb q 0 then restarted list lent.log b else kept_state lent.kept q

-- and the records of the steps between replayed from it: it depends on list, log, kept state, B and m only
unfoldable pub replayed_near : List ℕ → Lent → ℕ → ℕ → Undone
replayed_near list lent b m =
    let q = nearest m in
    replay list lent.log (stations list + kept_every * q) (m - 1 - kept_every * q) (nearest_state list lent b q)

-- Undo's order is 7, 8, 14, then document 02's 6 "after 14", its 8 "before 15, for the kept state used", and 15, of which a start record counts
-- where it is replayed: what is tested before the replay
abbrev pub before_replay : List ℕ → State → Lent → List Test
before_replay list s lent =
    let q = nearest s.m in
    (not (sound_list list) refuses LIST at 0)
    ∷ (not (sound_state list s) refuses STATE at 0)
    ∷ (eqb s.m 0 refuses EMPTY at 0)
    ∷ (kept_short lent.kept refuses ROOM at 0)
    ∷ (not (eqb q 0) && not (kept_right list lent.kept s.b q) refuses STATE at 0)
    ∷ (ltb (length lent.log) (2 * (s.n + s.m)) refuses LOG at 0)
    ∷ (eqb q 0 && not (starts_right list s.b lent.log) refuses LOG at 0)
    ∷ []

-- the replay's own
abbrev pub replay_tests : List ℕ → State → Lent → List Test
replay_tests list s lent = (not (eqb (replayed_near list lent s.b s.m).number 0) refuses LOG at 0) ∷ []

-- and all
abbrev pub undo_tests : List ℕ → State → Lent → List Test
undo_tests list s lent = before_replay list s lent ++ replay_tests list s lent

-- "it leaves the log", and the kept states, which is why nothing is said of them here
unfoldable pub undo : List ℕ → State → Lent → Undone
undo list s lent =
    let number = refusal (undo_tests list s lent) in
    if eqb number 0 then record { number = 0; state = (replayed_near list lent s.b s.m).state }
    else record { number = number; state = s }
