-- A replay of some records and then of more is a replay of those from where the first ones lead. Assumes nothing.
use mathlib.Core.Path.{◌≡◌, ap}
use mathlib.Core.List.{List}
use Prim.Native.Nat.{ℕ, zero, suc, ◌+◌}
use native.Mathlib.Omega.{arith}
use borrow.Author.Tests.{eq-eqb, eqb-false}
use lib.Dec.{eqb}
use Rattle.rules.specs.Records.{pick_at}
use Rattle.rules.specs.State.{State}
use Rattle.rules.specs.Step.{picked}
use Rattle.rules.specs.Undo.{Undone, replay}
use Rattle.laws.proofs.Choice.{by_test}

pub replay_then : (list log : List ℕ) (i count more : ℕ) (s t : State) → replay list log i count s ≡ record { number = 0; state = t }
    → replay list log i (count + more) s ≡ replay list log (i + count) more t
unfolding replay
replay_then list log i zero more s t e =
    let same : s ≡ t = ap (λ (u : Undone). u.state) e in
    let at : i + 0 ≡ i = omega arith in
    let all : 0 + more ≡ more = omega arith in
    rw (same, at, all)
replay_then list log i (suc count) more s t e =
    let at : i + suc count ≡ suc i + count = omega arith in
    let all : suc count + more ≡ suc (count + more) = omega arith in
    by_test (eqb (picked list s (pick_at log i)).number 0)
    (λ y. rw (all, replay, y, at) (replay_then list log (suc i) count more (picked list s (pick_at log i)).state t (rw y at e)))
    (λ y. absurd (eqb-false _ 0 y (ap (λ (u : Undone). u.number) (rw y at e))))

-- of one record
pub replay_one : (list log : List ℕ) (i : ℕ) (s : State) → (picked list s (pick_at log i)).number ≡ 0
    → replay list log i 1 s ≡ record { number = 0; state = (picked list s (pick_at log i)).state }
unfolding replay
replay_one list log i s taken = rw (eq-eqb _ 0 taken)
