-- Undo answers the state below, or EMPTY, where the log opens with the records of a stack that START and STEP made and the kept places hold
-- its states; and so does document 01's, which steps everything again. Assumes nothing.
use mathlib.Core.Path.{◌≡◌, sym, ap, ◌∙◌}
use mathlib.Core.Bool.{true, false}
use mathlib.Core.List.{List, ◌++◌}
use Prim.Native.Nat.{ℕ, ◌+◌, ◌-◌, ◌*◌, ◌≤◌}
use native.Mathlib.Omega.{arith}
use borrow.Author.Tests.{eq-eqb, ne_eqb, le-ltb, eqb-true, eqb-false}
use lib.Dec.{eqb}
use lib.ListN.{length, length-append}
use Rattle.rules.specs.Words.{judge}
use Rattle.rules.specs.Names.{EMPTY, kept_every}
use Rattle.rules.specs.Records.{Pick}
use Rattle.rules.specs.List.{stations, sound_list}
use Rattle.rules.specs.State.{State, sound_state}
use Rattle.rules.specs.Lent.{Lent}
use Rattle.rules.specs.Step.{step}
use Rattle.rules.specs.Undo.{replay, starts_right, restarted, replayed, undo_from_start, nearest, replayed_near, undo}
use Rattle.laws.specs.Passed.{KeptRoom, CanReplay}
use Rattle.laws.proofs.Choice.{by_test}
use Rattle.laws.proofs.Passed.{kept_passed}
use Rattle.laws.proofs.Answers.{undo_replayed}
use Rattle.kept.specs.Keeps.{HasState}
use Rattle.rules.specs.Calls.{ruled}
use Rattle.rules.specs.History.{Steps, taken, top, height, state_at, spelled}
use Rattle.history.specs.Back.{Made, by_start, by_step, below, KeptAll}
use Rattle.history.proofs.Replay.{replay_then}
use Rattle.history.proofs.Stack.{Facts, at_top, at_below, stack_facts}

module _ (list : List ℕ) (s : State) (lent : Lent) (h : sound_list list ≡ true) (v : sound_state list s ≡ true) where
  undo_empty : s.m ≡ 0 → undo list s lent ≡ record { number = EMPTY; state = s }
  unfolding undo judge
  undo_empty none = rw (h, v, eq-eqb s.m 0 none)

  from_start_empty : s.m ≡ 0 → undo_from_start list s lent ≡ record { number = EMPTY; state = s }
  unfolding undo_from_start judge
  from_start_empty none = rw (h, v, eq-eqb s.m 0 none)

  from_start_taken : (t : State) → 1 ≤ s.m → 2 * (s.n + s.m) ≤ length lent.log → starts_right list s.b lent.log ≡ true
      → replayed list lent.log s.b s.m ≡ record { number = 0; state = t } → undo_from_start list s lent ≡ record { number = 0; state = t }
  unfolding undo_from_start judge
  from_start_taken t some room starts replays =
      rw (h, v, ne_eqb s.m 0 (omega arith), le-ltb (length lent.log) (2 * (s.n + s.m)) room, starts, replays)

-- one step off the top of a stack
module _ (list : List ℕ) (steps : Steps) (p : Pick) (s : State) (f : Facts list (taken steps p s)) (lent : Lent) (rest : List ℕ)
    (logged : lent.log ≡ spelled (taken steps p s) ++ rest) where
  -- the records of all the steps below, or of those after the first k, replayed
  whole : replay list lent.log (stations list) (height steps) (restarted list lent.log s.b) ≡ record { number = 0; state = top steps }
  whole =
      rw logged (f.replays rest (height steps) (omega arith))
      ∙ ap (λ (t : State). record { number = 0; state = t }) (at_below steps p s (height steps) (omega arith) ∙ at_top steps)

  from : (k : ℕ) → k ≤ height steps
      → replay list lent.log (stations list + k) (height steps - k) (state_at (taken steps p s) k) ≡ record { number = 0; state = top steps }
  from k l =
      let all : k + (height steps - k) ≡ height steps = omega arith in
      let first : replay list lent.log (stations list) k (restarted list lent.log s.b) ≡ record { number = 0; state = state_at (taken steps p s) k } =
      rw logged (f.replays rest k (omega arith)) in
      sym (replay_then list lent.log (stations list) k (height steps - k) (restarted list lent.log s.b) (state_at (taken steps p s) k) first)
      ∙ rw all whole

  room : 2 * (s.n + s.m) ≤ length lent.log
  room = rw (logged, length-append) (omega (arith, f.bytes))

  from_start_below : undo_from_start list s lent ≡ record { number = 0; state = top steps }
  unfolding replayed
  from_start_below =
      let less : s.m - 1 ≡ height steps = omega (arith, f.counted) in
      from_start_taken list s lent f.of_list f.sound (top steps) (omega (arith, f.counted)) room (rw logged (f.starts rest))
      (rw less whole)

  module _ (kept_room : KeptRoom lent) (kept : KeptAll lent.kept (taken steps p s)) where
    abbrev q : ℕ
    q = nearest s.m

    -- where a kept place is used, it holds the state with its steps standing
    used : eqb q 0 ≡ false → HasState lent.kept q (state_at (taken steps p s) (kept_every * q))
    used e = let some = eqb-false q 0 e in kept q (omega arith) (omega (arith, f.counted))

    can : CanReplay list s lent
    can =
        record {
          of_list = f.of_list;
          of_state = f.sound;
          some_steps = omega (arith, f.counted);
          kept_room = kept_room;
          kept_used = λ e.
              let k = used e in
              let g = f.at (kept_every * q) (omega (arith, f.counted)) in
              (kept_passed list lent.kept s.b q).1
              (record { zeros = k.zeros_are; of_state = rw k.state_is g.sound; steps = rw k.state_is g.counted; b_is = rw k.state_is g.b_is });
          room = room;
          starts = λ e. rw logged (f.starts rest);
        }

    near : replayed_near list lent s.b s.m ≡ record { number = 0; state = top steps }
    unfolding replayed_near
    near =
        by_test (eqb q 0)
        (λ e.
        let none = eqb-true q 0 e in
        let first : stations list + kept_every * q ≡ stations list = omega arith in
        let count : s.m - 1 - kept_every * q ≡ height steps = omega (arith, f.counted) in
        rw (e, first, count) whole)
        (λ e.
        let count : s.m - 1 - kept_every * q ≡ height steps - kept_every * q = omega (arith, f.counted) in
        rw (e, count, (used e).state_is) (from (kept_every * q) (omega (arith, f.counted))))

    undo_below_top : undo list s lent ≡ record { number = 0; state = top steps }
    undo_below_top = undo_replayed list s lent can ∙ rw near

module _ (list : List ℕ) (lent : Lent) (rest : List ℕ) where
  pub undo_made : {steps : Steps} → Made ruled list steps → lent.log ≡ spelled steps ++ rest → KeptRoom lent → KeptAll lent.kept steps
      → undo list (top steps) lent ≡ below steps
  undo_made (by_start b resets was h) logged kept_room kept =
      let f = stack_facts list (by_start b resets was h) in
      undo_empty list _ lent f.of_list f.sound f.counted
  undo_made (by_step {steps} p was made h) logged kept_room kept =
      undo_below_top list steps p (step list (top steps) was p).state (stack_facts list (by_step p was made h)) lent rest logged kept_room kept

  pub from_start_made : {steps : Steps} → Made ruled list steps → lent.log ≡ spelled steps ++ rest
      → undo_from_start list (top steps) lent ≡ below steps
  from_start_made (by_start b resets was h) logged =
      let f = stack_facts list (by_start b resets was h) in
      from_start_empty list _ lent f.of_list f.sound f.counted
  from_start_made (by_step {steps} p was made h) logged =
      from_start_below list steps p (step list (top steps) was p).state (stack_facts list (by_step p was made h)) lent rest logged
