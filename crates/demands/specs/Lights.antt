-- LIGHTS, of any seven calls: the stations in turn, and what they show in any history and after any undo. These are claims, and proofs/Lights.antt
-- shows them of the rules' calls.
use Rattle.std.specs.Prelude.{◌≡◌, ◌↔◌, true, List, ℕ, ◌≤◌, ◌<◌}
use Rattle.std.proofs.Math.Option.{some}
use Rattle.rules.specs.Records.{Pick}
use Rattle.rules.specs.State.{State}
use Rattle.rules.specs.Lent.{Lent}
use Rattle.rules.specs.Ready.{waiting}
use Rattle.rules.specs.Lights.{Lights}
use Rattle.rules.specs.Calls.{Seven}
use Rattle.rules.specs.History.{Call, Steps, Now, history}
use Rattle.lit.specs.Lit.{bit, Shows, LitAsWaiting}
use Rattle.laws.specs.Passed.{CanStep}
use Rattle.history.specs.Back.{below}

-- the stations in turn are those of which a step with an allowed reset is taken
abbrev pub InTurn : Seven → Type 0
InTurn bench =
    (list : List ℕ) (s : State) (lent : Lent) (p : Pick) → CanStep list s lent → p.reset ≤ s.b
    → (bit (bench.lights list s).in_turn p.station ≡ true) ↔ ((bench.step list s lent p).number ≡ 0)

-- an answer that is not refused and shows the state
abbrev pub Lit : List ℕ → State → Lights → Type 0
Lit list s a = (a.number ≡ 0) × Shows list s a

-- after any history they show the last state answered, and after an undo the state below the top, each worked out from that state alone. A
-- station that waits there, so one that the step withdrawn had released, is lit again as reading its condition's variables and no others, and
-- as writing none
pub record Fresh (bench : Seven) (list : List ℕ) (now : Now) (steps : Steps) : Type 0 where
  pub lit : Lit list now.state (bench.lights list now.state)
  pub lit_undone : Lit list (below steps).state (bench.lights list (bench.undo list now.state now.lent).state)
  pub waits_undone : (j : ℕ) → j < (below steps).state.n → waiting list (below steps).state j ≡ true
      → LitAsWaiting list (below steps).state (bench.lights list (bench.undo list now.state now.lent).state) j

abbrev pub LightsFresh : Seven → Type 0
LightsFresh bench =
    (list : List ℕ) (s : State) (lent : Lent) (calls : List Call) (steps : Steps)
    → (history bench list s lent calls).standing ≡ some steps → Fresh bench list (history bench list s lent calls) steps
