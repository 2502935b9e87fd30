-- What holds of a stack that START and STEP made: its states are sound, and any log that opens with its records replays to each of them.
-- Assumes nothing.
use mathlib.Core.Path.{◌≡◌, refl, ap, ◌∙◌}
use mathlib.Core.Bool.{true}
use mathlib.Core.List.{List, ◌++◌, append_assoc}
use Prim.Native.Nat.{ℕ, suc, ◌+◌, ◌*◌, ◌≤◌}
use native.Mathlib.Omega.{arith}
use borrow.Author.Tests.{eq-eqb, ne_eqb, eqb-true, eqb-false}
use lib.Dec.{eqb}
use lib.ListN.{length, length-append}
use Rattle.rules.specs.Records.{Pick, pick_at, pick_bytes}
use Rattle.rules.specs.List.{stations, sound_list}
use Rattle.rules.specs.State.{State, sound_state}
use Rattle.rules.specs.Lent.{Lent}
use Rattle.rules.specs.Start.{started, start}
use Rattle.rules.specs.Step.{stepped, step}
use Rattle.rules.specs.Undo.{replay, starts_right, restarted}
use Rattle.laws.proofs.Choice.{by_test}
use Rattle.fair.specs.Sound.{Held}
use Rattle.laws.proofs.Answers.{start_can, start_state, picked_state, step_picks, step_state}
use Rattle.fair.proofs.Held.{step_held}
use Rattle.fair.proofs.Kept.{step_sound}
use Rattle.fair.proofs.Begun.{start_sound}
use Rattle.rules.specs.Calls.{ruled}
use Rattle.rules.specs.History.{Steps, begun, taken, top, start_b, height, state_at, spelled}
use Rattle.history.specs.Back.{Made, by_start, by_step}
use Rattle.laws.proofs.Written.{pick_behind, length_starts, resets_behind, starts_behind}
use Rattle.history.proofs.Replay.{replay_then, replay_one}

-- the state with just k of the steps standing
pub record At (list : List ℕ) (steps : Steps) (k : ℕ) : Type 0 where
  pub sound : sound_state list (state_at steps k) ≡ true
  pub held : Held (state_at steps k)
  pub b_is : (state_at steps k).b ≡ (top steps).b
  pub counted : (state_at steps k).m ≡ k

-- the last three speak of the stack's records, and of every log that opens with them
pub record Facts (list : List ℕ) (steps : Steps) : Type 0 where
  pub of_list : sound_list list ≡ true
  pub sound : sound_state list (top steps) ≡ true
  pub held : Held (top steps)
  pub stations_are : (top steps).n ≡ stations list
  pub b_is : (top steps).b ≡ start_b steps
  pub counted : (top steps).m ≡ height steps
  pub at : (k : ℕ) → k ≤ height steps → At list steps k
  pub bytes : length (spelled steps) ≡ 2 * ((top steps).n + (top steps).m)
  pub starts : (rest : List ℕ) → starts_right list (top steps).b (spelled steps ++ rest) ≡ true
  pub replays : (rest : List ℕ) (k : ℕ) → k ≤ height steps
      → replay list (spelled steps ++ rest) (stations list) k (restarted list (spelled steps ++ rest) (top steps).b)
      ≡ record { number = 0; state = state_at steps k }

-- with all of them standing it is the top, and with fewer that of the steps below
pub at_top : (steps : Steps) → state_at steps (height steps) ≡ top steps
unfolding state_at
at_top (begun b resets s) = refl
at_top (taken steps p s) = rw (eq-eqb (suc (height steps)) (suc (height steps)) refl)

pub at_below : (steps : Steps) (p : Pick) (s : State) (k : ℕ) → k ≤ height steps → state_at (taken steps p s) k ≡ state_at steps k
unfolding state_at
at_below steps p s k l = rw (ne_eqb k (suc (height steps)) (omega arith))

module _ (list : List ℕ) (b : ℕ) (resets : List ℕ) (lent : Lent) (h : (start list b resets lent).number ≡ 0) where
  start_facts : Facts list (begun b resets (start list b resets lent).state)
  unfolding spelled restarted replay started state_at
  start_facts =
      let a = start_can list b resets lent h in
      let state = start_state list b resets lent h in
      let s = start_sound list b resets lent h in
      record {
        of_list = a.of_list;
        sound = s.0;
        held = s.1;
        stations_are = rw state;
        b_is = rw state;
        counted = rw state;
        at = λ k l.
            let none : k ≡ 0 = omega arith in
            record { sound = s.0; held = s.1; b_is = refl; counted = rw (state, none) };
        bytes = rw state (let e = length_starts 0 resets in omega (arith, a.count));
        starts = λ rest. rw state (starts_behind list resets rest b a.count a.within);
        replays = λ rest k l.
            let none : k ≡ 0 = omega arith in
            rw (state, none, resets_behind resets rest (stations list) a.count);
      }

module _ (list : List ℕ) (steps : Steps) (p : Pick) (lent : Lent) (f : Facts list steps) (h : (step list (top steps) lent p).number ≡ 0) where
  abbrev after : Steps
  after = taken steps p (step list (top steps) lent p).state

  -- one record more
  more_replays : (rest : List ℕ)
      → let log = spelled steps ++ (pick_bytes p ++ rest) in
      replay list log (stations list) (suc (height steps)) (restarted list log (top steps).b)
      ≡ record { number = 0; state = stepped list (top steps) p }
  more_replays rest =
      let s = top steps in
      let log = spelled steps ++ (pick_bytes p ++ rest) in
      let goes = step_picks list s lent p h in
      let same : stations list + height steps ≡ s.n + s.m = omega (arith, f.stations_are, f.counted) in
      let here : pick_at log (stations list + height steps) ≡ p = pick_behind (spelled steps) rest _ p (rw same f.bytes) in
      let one : suc (height steps) ≡ height steps + 1 = omega arith in
      let below = f.replays (pick_bytes p ++ rest) (height steps) (omega arith) ∙ ap (λ (t : State). record { number = 0; state = t }) (at_top steps) in
      rw one
      (replay_then list log (stations list) (height steps) 1 (restarted list log s.b) s below
      ∙ replay_one list log _ s (rw here goes) ∙ rw (here, picked_state list s p goes))

  step_facts : Facts list after
  unfolding spelled stepped
  step_facts =
      let s = top steps in
      let e = step_state list s lent p h in
      let sound = step_sound list s lent p f.held f.sound in
      let held = step_held list s lent p f.held in
      let top_is = at_top after in
      record {
        of_list = f.of_list;
        sound = sound;
        held = held;
        stations_are = rw e f.stations_are;
        b_is = rw e f.b_is;
        counted = rw e (omega (arith, f.counted));
        at = λ k l.
            by_test (eqb k (suc (height steps)))
            (λ y.
            let all = eqb-true k (suc (height steps)) y in
            record { sound = rw (all, top_is) sound; held = rw (all, top_is) held; b_is = rw (all, top_is); counted = rw (all, top_is, e) (omega (arith, f.counted)) })
            (λ y.
            let fewer : k ≤ height steps = omega (arith, eqb-false k (suc (height steps)) y) in
            let same = at_below steps p (step list s lent p).state k fewer in
            let g = f.at k fewer in
            record { sound = rw same g.sound; held = rw same g.held; b_is = rw (same, e) g.b_is; counted = rw same g.counted });
        bytes = rw e (rw length-append (omega (arith, f.bytes)));
        starts = λ rest. rw (e, append_assoc) (f.starts (pick_bytes p ++ rest));
        replays = λ rest k l.
            by_test (eqb k (suc (height steps)))
            (λ y.
            let all = eqb-true k (suc (height steps)) y in
            rw (all, top_is, e, append_assoc) (more_replays rest))
            (λ y.
            let fewer : k ≤ height steps = omega (arith, eqb-false k (suc (height steps)) y) in
            rw (at_below steps p (step list s lent p).state k fewer, e, append_assoc) (f.replays (pick_bytes p ++ rest) k fewer));
      }

pub stack_facts : (list : List ℕ) {steps : Steps} → Made ruled list steps → Facts list steps
stack_facts list (by_start b resets lent h) = start_facts list b resets lent h
stack_facts list (by_step {steps} p lent made h) = step_facts list steps p lent (stack_facts list made) h
