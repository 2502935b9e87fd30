-- What a refused call leaves, and that RUN is as many single steps as it says. These are claims, and proofs/Calls.antt shows them.
use Rattle.std.specs.Prelude.{◌≡◌, ◌≢◌, List, ℕ, ◌+◌}
use Rattle.rules.specs.Calls.{Seven}
use Rattle.rules.specs.History.{Call, CHECK, BUILD, START, STEP, RUN, UNDO, LIGHTS, Now, single_steps, called, answered}

-- how many single steps of a call stand even if it is refused: "the steps before it stand"
abbrev pub steps_before : Seven → List ℕ → Now → Call → ℕ
steps_before bench list now (CHECK file) = 0
steps_before bench list now (BUILD file buffer) = 0
steps_before bench list now (START b resets) = 0
steps_before bench list now (STEP p) = 0
steps_before bench list now (RUN picks most) = (bench.run list now.state now.lent picks most).steps
steps_before bench list now UNDO = 0
steps_before bench list now LIGHTS = 0

-- a refused call leaves the last state, what is lent and what stands
abbrev pub RefusedLeaves : Seven → Type 0
RefusedLeaves bench =
    (list : List ℕ) (now : Now) (c : Call) → answered bench list now c ≢ 0 → steps_before bench list now c ≡ 0 → called bench list now c ≡ now

-- refused or not, RUN leaves what its single steps leave, and every one of them is taken
abbrev pub RunSingle : Seven → Type 0
RunSingle bench =
    (list : List ℕ) (now : Now) (picks : List ℕ) (most : ℕ)
    → let a = bench.run list now.state now.lent picks most in
    (called bench list now (RUN picks most) ≡ single_steps bench list picks 0 a.steps now)
    × (a.state.m ≡ now.state.m + a.steps)
