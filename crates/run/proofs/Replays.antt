-- What an undo asks of the start records, at the number of stations that the state has; and an undo by the parts that its replay reaches.
-- Assumes nothing.
use Rattle.std.specs.Prelude.{if◌then◌else◌}
use Prim.Native.Nat.{ℕ, zero, suc, ◌+◌, ◌-◌, ◌*◌, ◌≤◌, ◌<◌}
use mathlib.Core.Path.{◌≡◌, sym, ap, ◌∙◌}
use mathlib.Core.Logic.{◌≢◌}
use mathlib.Core.Bool.{◌&&◌, true≢false}
use mathlib.Core.List.{List}
use native.Mathlib.Omega.{arith}
use lib.Dec.{eqb, leb}
use lib.ListN.{length, drop}
use borrow.Author.Tests.{eqb-true, eq-eqb, ne_eqb, le-ltb}
use Rattle.rules.specs.Words.{each, Test, judge, refusal}
use Rattle.rules.specs.Names.{LOG, max_steps, max_kept, kept_every, kept_length}
use Rattle.rules.specs.Records.{pick_at}
use Rattle.rules.specs.List.{stations}
use Rattle.rules.specs.State.{State}
use Rattle.rules.specs.Lent.{Lent}
use Rattle.rules.specs.Kept.{kept_offset}
use Rattle.rules.specs.Start.{started}
use Rattle.rules.specs.Step.{stepped, picked}
use Rattle.rules.specs.Undo.{replay, starts_right, restarted, nearest, nearest_state, replayed_near, before_replay, undo}
use Rattle.laws.specs.Parts.{of_parts}
use Rattle.laws.specs.Passed.{Known, KeptRoom, CanReplay}
use Rattle.laws.proofs.Choice.{by_test}
use Rattle.laws.proofs.Passed.{kept_passed}
use Rattle.laws.proofs.Answers.{picked_state, undo_replayed}
use Rattle.laws.proofs.Sound.{sound_means}
use Rattle.fair.proofs.Withdrawn.{nearest_held, nearest_sound}
use Rattle.picking.specs.Took.{Took}
use Rattle.replaying.specs.Replayed.{took_from, took_of, as_took}
use Rattle.replaying.proofs.Known.{replay_known}

pub starts_counted : (list log : List ℕ) (b n : ℕ) → n ≡ stations list
    → starts_right list b log ≡ each (λ j. eqb (pick_at log j).station j && leb (pick_at log j).reset b) n
unfolding starts_right
starts_counted list log b n counted = rw counted

-- an undo's tests past those of list, state, EMPTY and the kept states' room, which refuse nothing: the last three decide
abbrev pub last_three : List ℕ → State → Lent → List Test
last_three list s lent = drop 4 (before_replay list s lent)

pub last_decide : (list : List ℕ) (s : State) (lent : Lent) → Known list s → s.m ≢ 0 → KeptRoom lent
    → refusal (before_replay list s lent) ≡ refusal (last_three list s lent)
unfolding judge
last_decide list s lent known some room =
    rw (known.of_list, known.of_state, ne_eqb s.m 0 some, le-ltb (length lent.kept) (kept_length * max_kept) room)

-- a replay that is not refused has the stations and the largest reset that it began with, and as many steps more as it replayed
replay_counts : (list log : List ℕ) (i count : ℕ) (s : State) → (replay list log i count s).number ≡ 0
    → let r = (replay list log i count s).state in
    r ≡ of_parts r.vars r.positions r.priorities r.counts s.n s.b (s.m + count)
unfolding replay stepped
replay_counts list log i zero s none = let m : s.m + 0 ≡ s.m = omega arith in rw m
replay_counts list log i (suc count) s none =
    let p = pick_at log i in
    by_test (eqb (picked list s p).number 0)
    (λ e.
    let after = picked_state list s p (eqb-true _ 0 e) in
    let n = ap (λ (a : State). a.n) after in
    let b = ap (λ (a : State). a.b) after in
    let m : (picked list s p).state.m + count ≡ s.m + suc count = omega (arith, ap (λ (a : State). a.m) after) in
    rw e (rw (n, b, m) at (replay_counts list log (suc i) count (picked list s p).state (rw e at none))))
    (λ e. absurd (true≢false (sym (eq-eqb _ 0 (rw e at none)) ∙ e)))

module _ (list : List ℕ) (s : State) (lent : Lent) (can : CanReplay list s lent) where
  abbrev q : ℕ
  q = nearest s.m

  abbrev near : State
  near = nearest_state list lent s.b q

  abbrev count : ℕ
  count = s.m - 1 - kept_every * q

  few_steps : s.m ≤ max_steps
  few_steps = ((sound_means list s).0 can.of_state).few_steps

  pub counted : s.n ≡ stations list
  counted = ((sound_means list s).0 can.of_state).of_list

  -- the buffer has the kept place
  pub has_place : kept_offset q + kept_length ≤ length lent.kept
  has_place = omega (arith, few_steps, can.kept_room)

  -- the state that the replay begins with has the stations, the largest reset and the steps of its place
  pub near_n : near.n ≡ s.n
  near_n = ((sound_means list near).0 (nearest_sound list s lent can).0).of_list ∙ sym counted

  pub near_b : near.b ≡ s.b
  unfolding restarted started
  near_b = by_test (eqb q 0) (λ e. rw e) (λ e. rw e ((kept_passed list lent.kept s.b q).0 (can.kept_used e)).b_is)

  -- so that a replay of its parts is the rules'
  pub near_took : s.b < 256 → took_from list lent.log near.n near.b (s.n + kept_every * q) count (took_of 0 near) ≡ as_took (replayed_near list lent s.b s.m)
  unfolding replayed_near
  near_took small =
      let at : s.n + kept_every * q ≡ stations list + kept_every * q = omega (arith, counted) in
      let sound = nearest_sound list s lent can in
      replay_known list lent.log (s.n + kept_every * q) count near (nearest_held list lent s.b q can.of_list)
      (record { of_list = can.of_list; of_state = sound.0 }) (omega (arith, small, near_b)) (omega (arith, sound.1, few_steps, can.some_steps))
      ∙ ap (λ (i : ℕ). as_took (replay list lent.log i count near)) at

  -- and an undo gives back the parts that its replay reached, with a step less
  pub undo_took : {t : Took} → t ≡ as_took (replayed_near list lent s.b s.m)
      → undo list s lent
      ≡ (if eqb t.number 0 then record { number = 0; state = of_parts t.vars t.positions t.priorities t.counts s.n s.b (s.m - 1) }
      else record { number = LOG; state = s })
  unfolding replayed_near
  undo_took is =
      let r = replay list lent.log (stations list + kept_every * q) count near in
      undo_replayed list s lent can
      ∙ by_test (eqb r.number 0)
      (λ e.
      let steps : near.m + count ≡ s.m - 1 = omega (arith, (nearest_sound list s lent can).1, can.some_steps) in
      let is_parts : r.state ≡ of_parts r.state.vars r.state.positions r.state.priorities r.state.counts s.n s.b (s.m - 1) =
      replay_counts list lent.log (stations list + kept_every * q) count near (eqb-true _ 0 e)
      ∙ (λ i. of_parts r.state.vars r.state.positions r.state.priorities r.state.counts (near_n i) (near_b i) (steps i)) in
      rw (is, e) (ap (λ (t : State). record { number = 0; state = t }) is_parts))
      (λ e. rw (is, e))
