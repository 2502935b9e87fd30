-- What a start, a step or an undo answers has at most 8 stations, so that its line is printed whole. Assumes nothing.
use mathlib.Core.Path.{◌≡◌}
use mathlib.Core.Bool.{◌&&◌}
use mathlib.Core.List.{List}
use Prim.Native.Nat.{ℕ, ◌≤◌}
use lib.Dec.{eqb}
use Rattle.rules.specs.Names.{max_stations, undo_station}
use Rattle.rules.specs.Records.{Pick}
use Rattle.rules.specs.State.{State}
use Rattle.rules.specs.Lent.{Lent}
use Rattle.rules.specs.Start.{start}
use Rattle.rules.specs.Step.{stepped, step}
use Rattle.rules.specs.Undo.{undo}
use Rattle.rules.specs.Trace.{taken_pick}
use Rattle.laws.proofs.Choice.{by_test}
use Rattle.laws.proofs.Sound.{at_most_eight}
use Rattle.laws.proofs.Answers.{start_can, step_can, step_state, undo_can}
use Rattle.fair.proofs.Begun.{start_sound}
use Rattle.fair.proofs.Withdrawn.{undo_sound}

pub few_started : (list : List ℕ) (b : ℕ) (resets : List ℕ) (lent : Lent) → (start list b resets lent).number ≡ 0
    → (start list b resets lent).state.n ≤ max_stations
few_started list b resets lent taken =
    at_most_eight (record { of_list = (start_can list b resets lent taken).of_list; of_state = (start_sound list b resets lent taken).0 })

few_stepped : (list : List ℕ) (s : State) (lent : Lent) (p : Pick) → (step list s lent p).number ≡ 0 → (step list s lent p).state.n ≤ max_stations
unfolding stepped
few_stepped list s lent p taken =
    let can = (step_can list s lent p taken).0 in
    rw (step_state list s lent p taken) (at_most_eight (record { of_list = can.of_list; of_state = can.of_state }))

few_undone : (list : List ℕ) (s : State) (lent : Lent) → (undo list s lent).number ≡ 0 → (undo list s lent).state.n ≤ max_stations
few_undone list s lent taken =
    let can = (undo_can list s lent taken).before in
    at_most_eight (record { of_list = can.of_list; of_state = undo_sound list s lent can.of_state })

pub few_taken : (list : List ℕ) (s : State) (lent : Lent) (p : Pick) → (taken_pick list s lent p).number ≡ 0
    → (taken_pick list s lent p).state.n ≤ max_stations
unfolding taken_pick
few_taken list s lent p =
    by_test (eqb p.station undo_station && eqb p.reset 0) (λ yes. rw yes (few_undone list s lent)) (λ no. rw no (few_stepped list s lent p))
