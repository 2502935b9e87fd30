-- One step: a pick, its tests in their order, the move of its station, FAIR's charge, the counts, its record in the log and the state that is
-- kept. These are definitions.
use Rattle.std.specs.Prelude.{ℕ, ◌+◌, ◌*◌, not, List, [], ◌∷◌, ◌++◌, eqb, leb, ltb, length, ℤ, if◌then◌else◌}
use Rattle.rules.specs.Words.{written, Test, ◌refuses◌at◌, refusal}
use Rattle.rules.specs.Names.{LIST, STATE, FULL, ROOM, COMPONENT, ENDED, NOT_READY, TURN, RESET, max_steps}
use Rattle.rules.specs.Records.{Pick, pick_bytes}
use Rattle.rules.specs.List.{sound_list}
use Rattle.rules.specs.State.{State, one_step_on, sound_state}
use Rattle.rules.specs.Lent.{Lent}
use Rattle.rules.specs.Kept.{kept_short, keep}
use Rattle.rules.specs.Turn.{charge_of, count_of}
use Rattle.rules.specs.Ready.{ready, ended, waiting, lowest}
use Rattle.rules.specs.Move.{moved}

-- "Readiness is judged before the step"
unfoldable pub charge : List ℕ → State → Pick → List ℤ
charge list s p = charge_of s.n (ready list s) p s.priorities

unfoldable pub counts_after : List ℕ → State → Pick → List ℕ
counts_after list s p = count_of s.n (ready list s) p s.counts

-- the state after the step of a pick
unfoldable pub stepped : List ℕ → State → Pick → State
stepped list s p =
    let after = moved list s.vars s.positions p.station in
    one_step_on s after.vars after.positions (charge list s p) (counts_after list s p)

-- the pick's own: 10, 16, 11, 12, 13
abbrev pub pick_tests : List ℕ → State → Pick → List Test
pick_tests list s p =
    (leb s.n p.station refuses COMPONENT at 0)
    ∷ (ended list s p.station refuses ENDED at 0)
    ∷ (waiting list s p.station refuses NOT_READY at 0)
    ∷ (not (lowest list s p.station) refuses TURN at 0)
    ∷ (ltb s.b p.reset refuses RESET at 0)
    ∷ []

pub record Picked : Type 0 where
  pub number : ℕ
  pub state : State

-- one pick, as a step and a replay make it: the state after its step; or its refusal, and the state given
unfoldable pub picked : List ℕ → State → Pick → Picked
picked list s p =
    let number = refusal (pick_tests list s p) in
    if eqb number 0 then record { number = 0; state = stepped list s p } else record { number = number; state = s }

-- the room for one step more, in the steps and in what is lent: 9, 6, 6
abbrev pub room_tests : State → Lent → List Test
room_tests s lent =
    (eqb s.m max_steps refuses FULL at 0)
    ∷ (ltb (length lent.log) (2 * (s.n + s.m + 1)) refuses ROOM at 0)
    ∷ (kept_short lent.kept refuses ROOM at 0)
    ∷ []

-- "Step's order is 7, 8, 9, 6, 10, 11, 12, 13", with document 02's 16 "just before 11" and its 6 "after the log's": what is tested before the
-- pick
abbrev pub before_pick : List ℕ → State → Lent → List Test
before_pick list s lent =
    (not (sound_list list) refuses LIST at 0) ∷ (not (sound_state list s) refuses STATE at 0) ∷ room_tests s lent

-- and all
abbrev pub step_tests : List ℕ → State → Lent → Pick → List Test
step_tests list s lent p = before_pick list s lent ++ pick_tests list s p

pub record Stepped : Type 0 where
  pub number : ℕ
  pub state : State
  pub lent : Lent

-- "one per step at byte 2(n+m)", and the state after the step in its kept place, where it has one
abbrev pub with_step : Lent → State → Pick → State → Lent
with_step lent s p after =
    record { log = written lent.log (2 * (s.n + s.m)) (pick_bytes p); kept = keep lent.kept after }

-- "A refusal answers its number and the state given … and writes to no lent buffer"
unfoldable pub step : List ℕ → State → Lent → Pick → Stepped
step list s lent p =
    let number = refusal (step_tests list s lent p) in
    if eqb number 0
    then record { number = 0; state = (picked list s p).state; lent = with_step lent s p (picked list s p).state }
    else record { number = number; state = s; lent = lent }
