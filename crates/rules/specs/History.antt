-- A history of any seven calls: calls of any kind and number, refused ones among them, on one list, with one log and one buffer of kept
-- states that are always lent whole, each given the last state answered; and the steps that stand after it. These are definitions.
use Rattle.std.specs.Prelude.{ℕ, zero, suc, List, [], ◌∷◌, ◌++◌, eqb, if◌then◌else◌}
use Rattle.std.proofs.Math.Option.{Option, none, some}
use Rattle.rules.specs.Records.{Pick, pick_at, pick_bytes}
use Rattle.rules.specs.State.{State}
use Rattle.rules.specs.Lent.{Lent}
use Rattle.rules.specs.Start.{start_records}
use Rattle.rules.specs.Calls.{Seven}

-- a call, with all that it is given but the list, the state and what is lent
pub data Call : Type 0 where
  -- a file
  CHECK : List ℕ → Call
  -- a file and a buffer
  BUILD : List ℕ → List ℕ → Call
  -- B and the resets
  START : ℕ → List ℕ → Call
  -- a station and a reset
  STEP : Pick → Call
  -- the picks' bytes and a most-steps number
  RUN : List ℕ → ℕ → Call
  UNDO : Call
  LIGHTS : Call

-- the steps that stand, a stack: at its foot a start with its B, its resets and the state it gave; on that, one by one, each step taken
-- since and not withdrawn, with its pick and the state it gave
pub data Steps : Type 0 where
  begun : ℕ → List ℕ → State → Steps
  taken : Steps → Pick → State → Steps

-- the state at the top
abbrev pub top : Steps → State
top (begun b resets s) = s
top (taken steps p s) = s

-- the start's B
abbrev pub start_b : Steps → ℕ
start_b (begun b resets s) = b
start_b (taken steps p s) = start_b steps

-- how many steps stand on the start
abbrev pub height : Steps → ℕ
height (begun b resets s) = 0
height (taken steps p s) = suc (height steps)

-- the state with just so many of them standing
unfoldable pub state_at : Steps → ℕ → State
state_at (begun b resets s) k = s
state_at (taken steps p s) k = if eqb k (suc (height steps)) then s else state_at steps k

-- the log records of a start and of the steps on it
unfoldable pub spelled : Steps → List ℕ
spelled (begun b resets s) = start_records 0 resets
spelled (taken steps p s) = spelled steps ++ pick_bytes p

-- a step goes on top; where no start stands, nothing does
abbrev pub pushed : Option Steps → Pick → State → Option Steps
pushed none p s = none
pushed (some steps) p s = some (taken steps p s)

-- the top taken off
abbrev pub popped : Option Steps → Option Steps
popped none = none
popped (some (begun b resets s)) = none
popped (some (taken steps p s)) = some steps

-- how things are between two calls: the last state answered, what is lent as the calls left it, and what stands
pub record Now : Type 0 where
  pub state : State
  pub lent : Lent
  pub standing : Option Steps

-- one step: not refused, it goes on top of what stands
unfoldable pub stepped_on : Seven → List ℕ → Now → Pick → Now
stepped_on bench list now p =
    let a = bench.step list now.state now.lent p in
    record {
      state = a.state;
      lent = a.lent;
      standing = if eqb a.number 0 then pushed now.standing p a.state else now.standing;
    }

-- so many single steps, of the picks from record i on
unfoldable pub single_steps : Seven → List ℕ → List ℕ → ℕ → ℕ → Now → Now
single_steps bench list picks i zero now = now
single_steps bench list picks i (suc count) now = single_steps bench list picks (suc i) count (stepped_on bench list now (pick_at picks i))

-- one call. "A refused start's zeros don't count as a state answered"; a start that is not refused begins anew. A run puts as many
-- single steps on the stack as it says it has taken. An undo that is not refused takes the top off
unfoldable pub called : Seven → List ℕ → Now → Call → Now
called bench list now (CHECK file) = now
called bench list now (BUILD file buffer) = now
called bench list now (START b resets) =
    let a = bench.start list b resets now.lent in
    record {
      state = if eqb a.number 0 then a.state else now.state;
      lent = a.lent;
      standing = if eqb a.number 0 then some (begun b resets a.state) else now.standing;
    }
called bench list now (STEP p) = stepped_on bench list now p
called bench list now (RUN picks most) =
    let a = bench.run list now.state now.lent picks most in
    record { state = a.state; lent = a.lent; standing = (single_steps bench list picks 0 a.steps now).standing }
called bench list now UNDO =
    let a = bench.undo list now.state now.lent in
    record {
      state = a.state;
      lent = now.lent;
      standing = if eqb a.number 0 then popped now.standing else now.standing;
    }
called bench list now LIGHTS = now

-- the calls one after another
unfoldable pub calls_from : Seven → List ℕ → Now → List Call → Now
calls_from bench list now [] = now
calls_from bench list now (c ∷ cs) = calls_from bench list (called bench list now c) cs

-- a history: at first nothing stands, what is lent holds whatever it holds, and the caller has whatever state
abbrev pub history : Seven → List ℕ → State → Lent → List Call → Now
history bench list s lent = calls_from bench list (record { state = s; lent = lent; standing = none })

-- the number that a call answers, 0 or a refusal's
abbrev pub answered : Seven → List ℕ → Now → Call → ℕ
answered bench list now (CHECK file) = (bench.check file).number
answered bench list now (BUILD file buffer) = (bench.build file buffer).number
answered bench list now (START b resets) = (bench.start list b resets now.lent).number
answered bench list now (STEP p) = (bench.step list now.state now.lent p).number
answered bench list now (RUN picks most) = (bench.run list now.state now.lent picks most).number
answered bench list now UNDO = (bench.undo list now.state now.lent).number
answered bench list now LIGHTS = (bench.lights list now.state).number
