-- No second answer meets the promise of the lights. Assumes nothing.
use mathlib.Core.Path.{◌≡◌, sym, ap, ◌∙◌}
use mathlib.Core.List.{List}
use Prim.Native.Nat.{ℕ}
use Rattle.rules.specs.State.{State}
use Rattle.rules.specs.Lights as rules
use Rattle.lights.specs.declared.answer.Lights.{Lights}
use Rattle.lights.specs.Promises.{LightsPromise}

-- the answer that the rules' lights are the view of
abbrev of_lights : rules.Lights → Lights
of_lights a = record { number = a.number; ready = a.ready; in_turn = a.in_turn; waiting = a.waiting; ended = a.ended; rows = a.rows }

pub lights_only : (list : List ℕ) (given : State) (r s : Lights) → LightsPromise list given r → LightsPromise list given s → r ≡ s
lights_only list given r s e f = ap of_lights (e ∙ sym f)
