-- Which steps are taken: the pick's own tests leave the picks that FAIR allows. Assumes nothing.
use mathlib.Core.Path.{◌∙◌}
use mathlib.Core.Logic.{◌↔◌}
use mathlib.Core.List.{List}
use Prim.Native.Nat.{ℕ, ◌≤◌}
use Rattle.rules.specs.Records.{Pick}
use Rattle.rules.specs.State.{State}
use Rattle.rules.specs.Calls.{ruled}
use Rattle.laws.specs.Passed.{CanPick}
use Rattle.laws.proofs.Lowest.{lowest_means}
use Rattle.laws.proofs.Passed.{step_passed}
use Rattle.laws.proofs.Answers.{step_number, step_can}
use Rattle.fair.specs.Charged.{Chosen}
use Rattle.fair.specs.Taken.{StepTaken}

-- what a pick needs is that FAIR lets its station be picked, and a reset of at most B
pub pick_allowed : (list : List ℕ) (s : State) (p : Pick) → CanPick list s p ↔ (Chosen list s p.station × (p.reset ≤ s.b))
pick_allowed list s p = (
  λ h. (
    record { station = h.station; enabled = h.enabled; lowest = (lowest_means list s p.station).0 h.in_turn },
    h.reset,
  ),
  λ h. record {
    station = h.0.station;
    enabled = h.0.enabled;
    in_turn = (lowest_means list s p.station).1 h.0.lowest;
    reset = h.1;
  },
)

pub step_taken : StepTaken ruled
step_taken list s lent p =
    let pick = pick_allowed list s p in (
      λ h. let (can, picks) = step_can list s lent p h in let (chosen, within) = pick.0 picks in (can, chosen, within),
      λ h. step_number list s lent p ∙ (step_passed list s lent p).1 (h.0, pick.1 (h.1, h.2)),
    )
