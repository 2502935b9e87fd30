-- Which steps are taken, and that FAIR leaves one to take. These are claims, and proofs/Taken.antt and
-- proofs/Deadlock.antt show them.
use Rattle.std.specs.Prelude.{◌≡◌, ◌↔◌, true, List, ℕ, ◌≤◌, ◌<◌}
use Rattle.rules.specs.Records.{Pick}
use Rattle.rules.specs.State.{State}
use Rattle.rules.specs.Lent.{Lent}
use Rattle.rules.specs.Ready.{ready, lowest}
use Rattle.rules.specs.Calls.{Seven}
use Rattle.laws.specs.Passed.{CanStep}
use Rattle.fair.specs.Charged.{Chosen}

-- a step is taken exactly when it has what every step needs, FAIR lets its station be picked, and its reset is at most B
abbrev pub StepTaken : Seven → Type 0
StepTaken bench =
    (list : List ℕ) (s : State) (lent : Lent) (p : Pick)
    → ((bench.step list s lent p).number ≡ 0) ↔ (CanStep list s lent × Chosen list s p.station × (p.reset ≤ s.b))

-- FAIR adds no deadlock: where some station is ready, some ready station has the lowest number
abbrev pub NoDeadlock : Type 0
NoDeadlock =
    (list : List ℕ) (s : State) (j : ℕ) → j < s.n → ready list s j ≡ true
    → (i : ℕ) × (i < s.n) × (ready list s i ≡ true) × (lowest list s i ≡ true)

-- so that some station can then be stepped with reset 0
abbrev pub StepThere : Seven → Type 0
StepThere bench =
    (list : List ℕ) (s : State) (lent : Lent) → CanStep list s lent → (j : ℕ) → j < s.n → ready list s j ≡ true
    → (i : ℕ) × ((bench.step list s lent (record { station = i; reset = 0 })).number ≡ 0)
