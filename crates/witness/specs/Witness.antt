-- The demands' premises can be met, with a log and kept states of junk, a run refused part-way and an undo among the calls, and the bound on
-- passing over with equality: by P10's two stations. And they can be met where an undo goes from a kept state. These are claims, and
-- proofs/Witness.antt shows them.
use Rattle.std.specs.Prelude.{◌≡◌, List, [], ◌∷◌, ◌++◌, ℕ, ◌+◌, ◌*◌, get_or, replicate}
use Rattle.std.proofs.Math.Option.{Option, none, some}
use Rattle.rules.specs.Names.{STATE, TURN, STATION, SKIP, SET, WHILE, OD, max_kept, kept_length}
use Rattle.rules.specs.Records.{Pick}
use Rattle.rules.specs.List.{stations}
use Rattle.rules.specs.State.{State, count, zeros}
use Rattle.rules.specs.Lent.{Lent}
use Rattle.rules.specs.Start.{started}
use Rattle.rules.specs.Step.{stepped}
use Rattle.rules.specs.Undo.{undo}
use Rattle.rules.specs.Calls.{ruled}
use Rattle.rules.specs.History.{Call, START, STEP, RUN, UNDO, Steps, begun, taken, start_b, height, Now, answered, history}
use Rattle.rules.specs.Passed.{passed_over, Unpicked}
use Rattle.reading.specs.Accepted.{Accepted}
use Rattle.built.specs.Built.{built}
use Rattle.demands.specs.Demands.{Bytes}

-- "two stations, each WHILE v0 = v0 around SKIP"
abbrev station : List ℕ
station = (STATION ∷ replicate 7 0) ++ (WHILE ∷ 0 ∷ 0 ∷ 4 ∷ replicate 4 0) ++ (SKIP ∷ replicate 7 0) ++ (OD ∷ replicate 7 0)

abbrev pub pair : List ℕ
pair = station ++ station

abbrev pick : ℕ → ℕ → Pick
pick station reset = record { station = station; reset = reset }

abbrev junk : Lent
junk = record { log = replicate 16 7; kept = replicate (kept_length * max_kept) 7 }

-- a start, and a run of three picks of station 0
abbrev pub ran : List Call
ran = START 1 (0 ∷ 1 ∷ []) ∷ RUN (0 ∷ 0 ∷ 0 ∷ 0 ∷ 0 ∷ 0 ∷ []) 9 ∷ []

-- then a step of station 1, and back
abbrev pub calls : List Call
calls = ran ++ (STEP (pick 1 1) ∷ UNDO ∷ [])

abbrev s₀ : State
s₀ = started (built pair) 1 (0 ∷ 1 ∷ [])

abbrev s₁ : State
s₁ = stepped (built pair) s₀ (pick 0 0)

abbrev s₂ : State
s₂ = stepped (built pair) s₁ (pick 0 0)

abbrev pub steps : Steps
steps = taken (taken (begun 1 (0 ∷ 1 ∷ []) s₀) (pick 0 0) s₁) (pick 0 0) s₂

pub record Met : Type 0 where
  pub bytes : Bytes pair
  pub accepted : Accepted pair
  -- the run is refused at its third pick
  pub refused : answered ruled (built pair) (history ruled (built pair) zeros junk (START 1 (0 ∷ 1 ∷ []) ∷ [])) (RUN (0 ∷ 0 ∷ 0 ∷ 0 ∷ 0 ∷ 0 ∷ []) 9) ≡ TURN
  pub stood : (history ruled (built pair) zeros junk ran).standing ≡ some steps
  -- the step after it is taken, and the undo takes it off again
  pub stepped_there : (history ruled (built pair) zeros junk (ran ++ (STEP (pick 1 1) ∷ []))).standing ≡ some (taken steps (pick 1 1) (stepped (built pair) s₂ (pick 1 1)))
  pub stands : (history ruled (built pair) zeros junk calls).standing ≡ some steps
  pub unpicked : Unpicked 1 steps 2
  -- in which station 1 was passed over B+n-1 times
  pub as_often : passed_over (built pair) 1 steps 2 + 1 ≡ start_b steps + stations (built pair)
  -- which its count says
  pub as_counted : count s₂ 1 + 1 ≡ start_b steps + stations (built pair)

-- one station that counts: STATION; WHILE v0 = v0; SET v0 := v0+1; OD
abbrev pub counter : List ℕ
counter = (STATION ∷ replicate 7 0) ++ (WHILE ∷ 0 ∷ 0 ∷ 4 ∷ replicate 4 0) ++ (SET ∷ 0 ∷ 0 ∷ 2 ∷ 1 ∷ replicate 3 0) ++ (OD ∷ replicate 7 0)

-- with room for 66 steps, and 66 of them
abbrev long_junk : Lent
long_junk = record { log = replicate 134 7; kept = replicate (kept_length * max_kept) 7 }

abbrev deep_calls : List Call
deep_calls = START 0 (0 ∷ []) ∷ RUN (replicate 132 0) 99 ∷ []

abbrev deep_now : Now
deep_now = history ruled (built counter) zeros long_junk deep_calls

-- what stands, or a start with nothing where nothing does
abbrev stack : Option Steps → Steps
stack none = begun 0 [] zeros
stack (some steps) = steps

-- 66 steps stand, an undo of the last goes from the kept state of the 64th, and it is refused where that is not there
pub record Deep : Type 0 where
  pub accepted : Accepted counter
  pub stands : deep_now.standing ≡ some (stack deep_now.standing)
  pub high : height (stack deep_now.standing) ≡ 66
  pub undone : (undo (built counter) deep_now.state deep_now.lent).state.m ≡ 65
  pub counted : get_or (undo (built counter) deep_now.state deep_now.lent).state.vars 0 0 ≡ 32
  pub used : (undo (built counter) deep_now.state (record { log = deep_now.lent.log; kept = long_junk.kept })).number ≡ STATE
