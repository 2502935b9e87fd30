-- What each call writes into the log, and where. These are claims, and proofs/Written.antt shows them.
use Rattle.std.specs.Prelude.{◌≡◌, List, [], ℕ, ◌+◌, ◌*◌, eqb, length, take, if◌then◌else◌}
use Rattle.rules.specs.Words.{written}
use Rattle.rules.specs.Records.{pick_bytes}
use Rattle.rules.specs.Start.{start_records}
use Rattle.rules.specs.Calls.{Seven}
use Rattle.rules.specs.History.{Call, CHECK, BUILD, START, STEP, RUN, UNDO, LIGHTS, Now, called}

-- START writes from byte 0 on, STEP and RUN from byte 2(n+m) on
abbrev pub offset : Now → Call → ℕ
offset now (CHECK file) = 0
offset now (BUILD file buffer) = 0
offset now (START b resets) = 0
offset now (STEP p) = 2 * (now.state.n + now.state.m)
offset now (RUN picks most) = 2 * (now.state.n + now.state.m)
offset now UNDO = 0
offset now LIGHTS = 0

-- START the n start records, STEP its pick, RUN the picks of the steps taken; refused, and in every other call, nothing
abbrev pub records_written : Seven → List ℕ → Now → Call → List ℕ
records_written bench list now (CHECK file) = []
records_written bench list now (BUILD file buffer) = []
records_written bench list now (START b resets) = if eqb (bench.start list b resets now.lent).number 0 then start_records 0 resets else []
records_written bench list now (STEP p) = if eqb (bench.step list now.state now.lent p).number 0 then pick_bytes p else []
records_written bench list now (RUN picks most) = take (2 * (bench.run list now.state now.lent picks most).steps) picks
records_written bench list now UNDO = []
records_written bench list now LIGHTS = []

-- a log after bytes were put into it at an offset: its other bytes stay, and so does its length
pub record Put (log after : List ℕ) (at : ℕ) (bytes : List ℕ) : Type 0 where
  pub same : after ≡ written log at bytes
  pub long : length after ≡ length log

abbrev pub LogWritten : Seven → Type 0
LogWritten bench =
    (list : List ℕ) (now : Now) (c : Call) → Put now.lent.log (called bench list now c).lent.log (offset now c) (records_written bench list now c)
