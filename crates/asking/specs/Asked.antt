-- The tests that the question of one station makes, in their order: 7 and 8, as LIGHTS makes them, and then 10. This is a definition.
use Rattle.std.specs.Prelude.{ℕ, List, [], ◌∷◌, ◌++◌, leb}
use Rattle.rules.specs.Words.{Test, ◌refuses◌at◌}
use Rattle.rules.specs.Names.{COMPONENT}
use Rattle.rules.specs.State.{State}
use Rattle.rules.specs.Lights.{lights_tests}

abbrev pub asked_tests : List ℕ → State → ℕ → List Test
asked_tests list s j = lights_tests list s ++ ((leb s.n j refuses COMPONENT at 0) ∷ [])
