-- The question that a panel asks of one station: is it ready, has it ended, or does it wait, and where? These are definitions.
use Rattle.std.specs.Prelude.{ℕ, List, eqb, if◌then◌else◌}
use Rattle.rules.specs.Words.{Answer, answer, refusal}
use Rattle.rules.specs.State.{State}
use Rattle.rules.specs.Ready.{readiness, told}
use Rattle.rules.specs.Lights.{lights_tests}

-- its order is 7, 8, 10: the tests that LIGHTS makes, at place 0; and then what the station's readiness tells, which is 10 of a station that
-- the list has not
unfoldable pub asked : List ℕ → State → ℕ → Answer
asked list s j =
    let number = refusal (lights_tests list s) in
    if eqb number 0 then told (readiness list s j) else answer number 0
