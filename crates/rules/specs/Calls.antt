-- The seven calls of a program, right or wrong: functions of what they are given, whose answers have what they leave in the memory that
-- they were lent to write. Memory lent to be read alone is in no answer, or is there as it was: the code's types lend it so. A program that remembers more between
-- its calls than the state and what it is lent is no such record; the code has nothing to remember it in. The rules' own calls are `ruled`. These are
-- definitions.
use Rattle.std.specs.Prelude.{ℕ, List}
use Rattle.rules.specs.Words.{Answer}
use Rattle.rules.specs.Records.{Pick}
use Rattle.rules.specs.Check.{check}
use Rattle.rules.specs.Build.{Built, build}
use Rattle.rules.specs.State.{State}
use Rattle.rules.specs.Lent.{Lent}
use Rattle.rules.specs.Start.{Started, start}
use Rattle.rules.specs.Step.{Stepped, step}
use Rattle.rules.specs.Run.{Ran, run}
use Rattle.rules.specs.Undo.{Undone, undo}
use Rattle.rules.specs.Lights.{Lights, lights}

pub record Seven : Type 0 where
  -- a file
  pub check : List ℕ → Answer
  -- a file, and a buffer for the list
  pub build : List ℕ → List ℕ → Built
  -- a list, B, the resets, and what is lent
  pub start : List ℕ → ℕ → List ℕ → Lent → Started
  -- a list, a state, what is lent, and a pick
  pub step : List ℕ → State → Lent → Pick → Stepped
  -- a list, a state, what is lent, the picks' bytes, and a most-steps number
  pub run : List ℕ → State → Lent → List ℕ → ℕ → Ran
  -- a list, a state, and what is lent
  pub undo : List ℕ → State → Lent → Undone
  -- a list, and a state
  pub lights : List ℕ → State → Lights

abbrev pub ruled : Seven
ruled =
    record {
      check = check;
      build = build;
      start = start;
      step = step;
      run = run;
      undo = undo;
      lights = lights;
    }
