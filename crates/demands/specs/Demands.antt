-- The three demands, of any seven calls. proofs/Whole.antt shows them of the rules' calls, and of any that equal those on all plain lists and
-- states. The code's calls are given bytes, and states of its own types; there its promises say that they equal the rules', and so do calls
-- that are the code's there and the rules' elsewhere. proofs/Only.antt shows the converse: calls that meet the first two demands answer as the
-- rules do, in every state of 32 variables, 8 positions, 8 priorities and 8 counts. A clause that does not name the calls says what a word of
-- the rules means.
use Rattle.std.specs.Prelude.{List, ℕ, ◌<◌, get_or}
use Rattle.rules.specs.Records.{Pick}
use Rattle.rules.specs.State.{State}
use Rattle.rules.specs.Lent.{Lent}
use Rattle.rules.specs.Calls.{Seven}
use Rattle.laws.specs.Tells.{ReadinessTells, StepTells}
use Rattle.reading.specs.Accepted.{Accepted}
use Rattle.lit.specs.Lit.{LightsShow, MasksSplit, WaitingLit}
use Rattle.fair.specs.Taken.{StepTaken, NoDeadlock, StepThere}
use Rattle.language.specs.Claims.{Determined}
use Rattle.history.specs.Back.{UndoBelow}
use Rattle.history.specs.Written.{LogWritten}
use Rattle.history.specs.Passed.{PassedOver}
use Rattle.history.specs.Calls.{RefusedLeaves, RunSingle}
use Rattle.demands.specs.Order.{CheckOrder, CheckShapes, BuildOrder, StartOrder, StepOrder, UndoOrder, LightsOrder, RefusalLeaves}
use Rattle.demands.specs.Runs.{RunStops}
use Rattle.demands.specs.Does.{BuildLays, StartTaken, StartBegins, StepDoes, UndoReplays}
use Rattle.demands.specs.Written.{AsWritten}
use Rattle.demands.specs.Lights.{InTurn, LightsFresh}

-- 1. "A refusal has a fixed number, a fixed place in the order, and leaves the state and all lent memory untouched; in a run of picks the
-- steps before it stand." That every call is defined on every input is that it is a function, and of the code that its promises are
-- equations with nothing asked of the caller; that the code's calls end is what the checker proves of every function.
pub record Demand1 (bench : Seven) : Type 0 where
  pub check_order : CheckOrder bench
  pub check_shapes : CheckShapes bench
  pub build_order : BuildOrder bench
  pub start_order : StartOrder bench
  pub step_order : StepOrder bench
  pub undo_order : UndoOrder bench
  pub lights_order : LightsOrder bench
  pub leaves : RefusalLeaves bench
  pub run_stops : RunStops bench
  pub history_kept : RefusedLeaves bench
  pub steps_stand : RunSingle bench

-- a file is bytes
abbrev pub Bytes : List ℕ → Type 0
Bytes file = (i : ℕ) → get_or file i 0 < 256

-- 2. "The stepping is Olderog and Apt's: their step rules, their readiness, their strong-fairness pick order, as our rules narrow them"
pub record Demand2 (bench : Seven) : Type 0 where
  -- "On a sound list and state, with log room and step room left, a built-in step is taken exactly when its station is ready, no ready
  -- station has a lower priority number and the reset is allowed"
  pub taken_when : StepTaken bench
  -- where "a station is ready when not at STOP and, if at AWAIT, its condition holds", and is else ended or waiting, at the record told; and a
  -- step refused for that says which
  pub readiness : (list : List ℕ) (s : State) → ReadinessTells list s
  pub step_tells : (list : List ℕ) (s : State) (lent : Lent) (p : Pick) → StepTells bench list s lent p
  pub step_does : StepDoes bench
  pub start_when : StartTaken bench
  pub start_begins : StartBegins bench
  pub no_deadlock : NoDeadlock
  pub step_there : StepThere bench
  -- "It stops at the first refusal, the end of the picks or that number"; "RUN is that many of its single steps"
  pub run_stops : RunStops bench
  -- "on a list made from a sequence, with the pick order rubbed out, it is that step of the written sequence"
  pub build_lays : BuildLays bench
  pub determined : Determined
  pub as_written : (file : List ℕ) → Bytes file → Accepted file → AsWritten bench file
  -- "undo gives back the whole state before the step, and the lights equal those worked out afresh from it"
  pub undo_replays : UndoReplays bench
  pub undo_below : UndoBelow bench
  pub log_written : LogWritten bench
  pub lights_show : LightsShow bench
  pub masks_split : MasksSplit bench
  pub waiting_lit : WaitingLit bench
  pub in_turn : InTurn bench
  pub lights_fresh : LightsFresh bench

-- 3. "After any calls, refusals and undos among them, for each k from 1 to n at most n-k stations have priority -k or lower. In the steps
-- then standing, no station is ready and passed over more than B+n-1 times from the start, or from one of its picks, to its next pick or to
-- now." Of steps that are demand 2's: an idle program's bounds hold too, since nothing stands. Document 02, T-05, with it: each count "equals the
-- count worked out from the standing steps", and "none exceeds B+n-1"
pub record Demand3 (bench : Seven) : Type 0 where
  pub over : Demand2 bench
  pub bounds : PassedOver bench

pub record Demands (bench : Seven) : Type 0 where
  pub first : Demand1 bench
  pub second : Demand2 bench
  pub third : Demand3 bench
