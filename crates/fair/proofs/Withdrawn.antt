-- A replay keeps a state sound, and so an undo gives back a sound one. Assumes nothing.
use mathlib.Core.Path.{◌≡◌}
use mathlib.Core.Bool.{true}
use mathlib.Core.List.{List}
use Prim.Native.Nat.{ℕ, zero, suc, ◌+◌, ◌*◌, ◌≤◌}
use native.Mathlib.Omega.{arith}
use borrow.Author.Tests.{eqb-true, leb-true}
use lib.Dec.{eqb}
use Rattle.rules.specs.Names.{variables, max_stations, max_steps, kept_every}
use Rattle.rules.specs.Records.{Pick, pick_at}
use Rattle.rules.specs.List.{stations, sound_list}
use Rattle.rules.specs.State.{State, sound_state}
use Rattle.rules.specs.Start.{started}
use Rattle.rules.specs.Step.{picked, stepped}
use Rattle.rules.specs.Lent.{Lent}
use Rattle.rules.specs.Kept.{kept_state}
use Rattle.rules.specs.Undo.{replay, starts_right, restarted, nearest, nearest_state, replayed_near, undo}
use Rattle.laws.specs.Passed.{Known, CanReplay}
use Rattle.laws.proofs.Choice.{by_test, both_right}
use Rattle.laws.proofs.Places.{each_at, length_values, get_or_values}
use Rattle.laws.proofs.Sound.{sound_means}
use Rattle.laws.proofs.Passed.{kept_passed}
use Rattle.laws.proofs.Answers.{picked_state, undo_can, undo_state, undo_refused}
use Rattle.fair.specs.Sound.{Held, UndoSound}
use Rattle.fair.proofs.Held.{started_held, picked_held}
use Rattle.fair.proofs.Begun.{started_sound}
use Rattle.fair.proofs.Kept.{picked_sound}

-- a pick that is taken is one step more
pub picked_m : (list : List ℕ) (s : State) (p : Pick) → (picked list s p).number ≡ 0 → (picked list s p).state.m ≡ s.m + 1
unfolding stepped
picked_m list s p taken = rw (picked_state list s p taken)

-- so many records of a log replayed, to the end or to the first that is refused
pub replay_sound : (list log : List ℕ) (i count : ℕ) (s : State) → Held s → Known list s → s.m + count ≤ max_steps
    → sound_state list (replay list log i count s).state ≡ true
unfolding replay
replay_sound list log i zero s held known m = known.of_state
replay_sound list log i (suc count) s held known m =
    let p = pick_at log i in
    let sound = picked_sound list s p held known (omega arith) in
    by_test (eqb (picked list s p).number 0)
    (λ e.
    let more = picked_m list s p (eqb-true _ 0 e) in
    rw (e, replay)
    (replay_sound list log (suc i) count (picked list s p).state (picked_held list s p held) (record { of_list = known.of_list; of_state = sound }) (omega arith)))
    (λ e. rw (e, replay) sound)

-- start records in their places, with resets of at most b, give a sound state
pub restarted_sound : (list log : List ℕ) (b : ℕ) → sound_list list ≡ true → starts_right list b log ≡ true
    → sound_state list (restarted list log b) ≡ true
unfolding starts_right restarted
restarted_sound list log b of_list right =
    (sound_means list _).1
    (started_sound list b _ of_list (length_values _ (stations list))
    (λ j l. rw (get_or_values (λ j. (pick_at log j).reset) (stations list) j 0 l)
    (leb-true (pick_at log j).reset b (both_right (eqb (pick_at log j).station j) _ (each_at _ (stations list) right j l)))))

-- where an undo's replay begins: at a state of 32 variables, 8 positions, 8 priorities and 8 counts
pub nearest_held : (list : List ℕ) (lent : Lent) (b q : ℕ) → sound_list list ≡ true → Held (nearest_state list lent b q)
unfolding restarted kept_state
nearest_held list lent b q of_list =
    by_test (eqb q 0)
    (λ e. rw e (started_held list b _ of_list (length_values _ (stations list))))
    (λ e. rw e (record {
      vars = length_values _ variables;
      positions = length_values _ max_stations;
      priorities = length_values _ max_stations;
      counts = length_values _ max_stations;
    }))

-- that is sound, with as many steps as its kept place says
pub nearest_sound : (list : List ℕ) (s : State) (lent : Lent) → CanReplay list s lent
    → (sound_state list (nearest_state list lent s.b (nearest s.m)) ≡ true)
    × ((nearest_state list lent s.b (nearest s.m)).m ≡ kept_every * nearest s.m)
unfolding restarted started
nearest_sound list s lent can =
    by_test (eqb (nearest s.m) 0)
    (λ e. rw e (restarted_sound list lent.log s.b can.of_list (can.starts e), omega (arith, eqb-true (nearest s.m) 0 e)))
    (λ e.
    let right = (kept_passed list lent.kept s.b (nearest s.m)).0 (can.kept_used e) in
    rw e (right.of_state, right.steps))

pub undo_sound : UndoSound
unfolding replayed_near
undo_sound list s lent h =
    by_test (eqb (undo list s lent).number 0)
    (λ e.
    let n = eqb-true _ 0 e in
    let can = (undo_can list s lent n).before in
    let few = ((sound_means list s).0 h).few_steps in
    let near = nearest_sound list s lent can in
    rw (undo_state list s lent n)
    (replay_sound list lent.log _ _ _ (nearest_held list lent s.b (nearest s.m) can.of_list) (record { of_list = can.of_list; of_state = near.0 }) (rw near.1 (omega arith))))
    (λ e. rw (undo_refused list s lent e) h)
