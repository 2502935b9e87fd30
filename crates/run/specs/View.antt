-- The answers of the code, seen as those of the rules. An answer of the rules has what was lent too. These are definitions.
use Rattle.std.specs.Prelude.{Result, Ok, Err}
use Rattle.rules.specs.State as rules_state
use Rattle.rules.specs.Lent.{Lent}
use Rattle.rules.specs.Start as rules_start
use Rattle.rules.specs.Step as rules_step
use Rattle.rules.specs.Run as rules_run
use Rattle.rules.specs.Undo as rules_undo
use Rattle.record.specs.declared.refusal.Refusal.{Refusal}
use Rattle.state.specs.declared.State.{State}
use Rattle.state.specs.View.{as_state}
use Rattle.run.specs.declared.Outcome.{Outcome}
use Rattle.run.specs.declared.Ran.{Ran}

abbrev pub as_started : Outcome → Lent → rules_start.Started
as_started r lent = record { number = r.number; state = as_state r.state; lent = lent }

abbrev pub as_stepped : Outcome → Lent → rules_step.Stepped
as_stepped r lent = record { number = r.number; state = as_state r.state; lent = lent }

abbrev pub as_ran : Ran → Lent → rules_run.Ran
as_ran r lent = record { number = r.number; state = as_state r.state; steps = r.steps; lent = lent }

abbrev pub as_undone : Outcome → rules_undo.Undone
as_undone r = record { number = r.number; state = as_state r.state }

-- the state that an answer has: the one reached, or on a refusal the one given
abbrev pub as_answer : Result State Refusal → rules_state.State → rules_state.State
as_answer (Ok s) given = as_state s
as_answer (Err refusal) given = given
