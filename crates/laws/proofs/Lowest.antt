-- "the lowest priority number among the ready": what the rules' test says, station by station. Assumes nothing.
use mathlib.Core.Path.{◌≡◌, refl}
use mathlib.Core.Logic.{◌↔◌}
use mathlib.Core.Bool.{Bool, true, false, not, ◌||◌, false≢true}
use mathlib.Core.List.{List}
use Prim.Native.Nat.{ℕ, ◌<◌}
use lib.IntN.{ℤ}
use lib.Signed.{le_z}
use Rattle.rules.specs.State.{State, priority}
use Rattle.rules.specs.Turn.{lowest_of}
use Rattle.rules.specs.Ready.{ready, lowest}
use Rattle.laws.proofs.Places.{each_at, each_all}

-- "if the first, then the second", as a test
implies : (a b : Bool) → ((not a || b) ≡ true) ↔ (a ≡ true → b ≡ true)
implies true b = (λ h e. h, λ h. h refl)
implies false b = (λ h e. absurd (false≢true e), λ h. refl)

-- of any readiness and any priorities
pub lowest_of_means : (n : ℕ) (ready : ℕ → Bool) (z : ℕ → ℤ) (i : ℕ)
    → (lowest_of n ready z i ≡ true) ↔ ((j : ℕ) → j < n → ready j ≡ true → le_z (z i) (z j) ≡ true)
lowest_of_means n ready z i = (
  λ h j l. (implies (ready j) _).0 (each_at _ n h j l),
  λ h. each_all _ n (λ j l. (implies (ready j) _).1 (h j l)),
)

-- and of a state's
pub lowest_means : (list : List ℕ) (s : State) (i : ℕ)
    → (lowest list s i ≡ true) ↔ ((j : ℕ) → j < s.n → ready list s j ≡ true → le_z (priority s i) (priority s j) ≡ true)
unfolding lowest
lowest_means list s i = lowest_of_means s.n (ready list s) (priority s) i
