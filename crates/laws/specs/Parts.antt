-- A state by its parts, as the code holds them while it changes them. These are definitions.
use Rattle.std.specs.Prelude.{ℕ, ◌+◌, List, eqb, ℤ, if◌then◌else◌}
use Rattle.rules.specs.State.{State}

-- a state of these parts
abbrev pub of_parts : List ℕ → List ℕ → List ℤ → List ℕ → ℕ → ℕ → ℕ → State
of_parts vars positions priorities counts n b m =
    record {
      vars = vars;
      positions = positions;
      priorities = priorities;
      counts = counts;
      n = n;
      b = b;
      m = m;
    }

-- the standing steps after a call that answers a number: one more where it is 0
abbrev pub steps_after : ℕ → ℕ → ℕ
steps_after number m = if eqb number 0 then m + 1 else m
