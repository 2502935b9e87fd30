-- What each call of a run promises, for a list, a state and what is lent whatever. A call's contract cites its promise, and proofs/Only.antt shows
-- that no second answer meets it. These are definitions.
use Rattle.std.specs.Prelude.{ℕ, ◌≡◌, List}
use Rattle.rules.specs.Records.{Pick}
use Rattle.rules.specs.State as rules_state
use Rattle.rules.specs.Lent.{Lent}
use Rattle.rules.specs.Start as rules_start
use Rattle.rules.specs.Step as rules_step
use Rattle.rules.specs.Run as rules_run
use Rattle.rules.specs.Undo as rules_undo
use Rattle.run.specs.View.{as_started, as_stepped, as_ran, as_undone}
use Rattle.run.specs.declared.Outcome.{Outcome}
use Rattle.run.specs.declared.Ran.{Ran}

-- what START promises of its answer and of what was lent afterwards
abbrev pub StartPromise : List ℕ → ℕ → List ℕ → Lent → Outcome → Lent → Type 0
StartPromise list b resets lent r after = as_started r after ≡ rules_start.start list b resets lent

-- what STEP promises of its answer and of what was lent afterwards, for a state given and a pick
abbrev pub StepPromise : List ℕ → rules_state.State → Lent → Pick → Outcome → Lent → Type 0
StepPromise list given lent p r after = as_stepped r after ≡ rules_step.step list given lent p

-- what RUN promises of its answer and of what was lent afterwards, for a state given, picks and the most-steps number
abbrev pub RunPromise : List ℕ → rules_state.State → Lent → List ℕ → ℕ → Ran → Lent → Type 0
RunPromise list given lent picks most r after = as_ran r after ≡ rules_run.run list given lent picks most

-- what UNDO promises of its answer, for a state given; what is lent is only read
abbrev pub UndoPromise : List ℕ → rules_state.State → Lent → Outcome → Type 0
UndoPromise list given lent r = as_undone r ≡ rules_undo.undo list given lent
