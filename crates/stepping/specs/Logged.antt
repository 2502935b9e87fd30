-- One step of a state past 7 and 8, with the pick as `picking` makes it of any list and of the parts of any state. These are definitions.
use Rattle.std.specs.Prelude.{ℕ, ◌+◌, ◌*◌, List, [], ◌∷◌, eqb, leb, ltb, length, if◌then◌else◌}
use Rattle.rules.specs.Words.{Test, ◌refuses◌at◌, refusal}
use Rattle.rules.specs.Names.{FULL, ROOM, max_steps}
use Rattle.rules.specs.Records.{Pick}
use Rattle.rules.specs.State.{State}
use Rattle.rules.specs.Lent.{Lent}
use Rattle.rules.specs.Kept.{kept_short}
use Rattle.rules.specs.Step.{with_step, Stepped}
use Rattle.laws.specs.Narrow.{narrow}
use Rattle.picking.specs.Took.{state_of, took, after}

-- the room for one step more, of any state: more than 4,096 steps, which no sound state has, are as many
abbrev pub room_left : State → Lent → List Test
room_left s lent =
    (leb max_steps s.m refuses FULL at 0)
    ∷ (ltb (length lent.log) (2 * (s.n + s.m + 1)) refuses ROOM at 0)
    ∷ (kept_short lent.kept refuses ROOM at 0)
    ∷ []

unfoldable pub logged : List ℕ → State → Lent → Pick → Stepped
logged list s lent p =
    let number = refusal (room_left s lent) in
    let t = took (narrow list) (state_of s.vars s.positions s.priorities s.counts s.n s.b) p in
    if eqb number 0
    then record { number = t.number; state = (after s t).state; lent = if eqb t.number 0 then with_step lent s p (after s t).state else lent }
    else record { number = number; state = s; lent = lent }
