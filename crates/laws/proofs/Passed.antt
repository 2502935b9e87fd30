-- A call's tests refuse nothing exactly where what they ask for holds. Assumes nothing.
use mathlib.Core.Path.{◌≡◌, refl, sym, ap, ◌∙◌}
use mathlib.Core.Logic.{◌↔◌}
use mathlib.Core.Bool.{Bool, true, false, ◌&&◌, not}
use mathlib.Core.List.{List}
use Prim.Native.Nat.{ℕ, ◌+◌, ◌*◌}
use native.Mathlib.Omega.{arith}
use borrow.Author.Tests.{leb-true, le-leb, lt-leb, leb-false, ltb-false, le-ltb, eqb-true, eq-eqb, eqb-false, ne_eqb, not-false, not-true}
use lib.Dec.{eqb}
use lib.ListN.{length, get_or}
use Rattle.rules.specs.Words.{Answer, refusal}
use Rattle.rules.specs.Names.{max_steps, max_kept, kept_every, kept_length}
use Rattle.rules.specs.Records.{Pick}
use Rattle.rules.specs.List.{stations}
use Rattle.rules.specs.State.{State}
use Rattle.rules.specs.Lent.{Lent}
use Rattle.rules.specs.Kept.{kept_short, kept_state, kept_right}
use Rattle.rules.specs.Start.{start_tests}
use Rattle.rules.specs.Step.{before_pick, pick_tests, step_tests}
use Rattle.rules.specs.Undo.{starts_right, nearest, replayed_near, before_replay, undo_tests}
use Rattle.rules.specs.Lights.{lights_tests}
use Rattle.laws.specs.Passed.{Known, KeptRoom, CanStart, CanStep, CanPick, RightKept, CanReplay, CanUndo}
use Rattle.laws.proofs.Choice.{neither, both, split}
use Rattle.laws.proofs.Places.{each_at, each_all}
use Rattle.laws.proofs.Judge.{unrefused, judge_then}
use Rattle.laws.proofs.Sound.{sound_means}
use Rattle.laws.proofs.Ready.{ready_else, ready_alone}

-- the buffer of kept states is long enough, or is refused
room_kept : (lent : Lent) → kept_short lent.kept ≡ false → KeptRoom lent
room_kept lent e = ltb-false (length lent.kept) (kept_length * max_kept) e

kept_roomy : (lent : Lent) → KeptRoom lent → kept_short lent.kept ≡ false
kept_roomy lent h = le-ltb (length lent.kept) (kept_length * max_kept) h

-- a test that is made only where another holds refuses nothing exactly where it passes there
only_where : (a b : Bool) → (a && not b ≡ false) ↔ (a ≡ true → b ≡ true)
only_where true true = (λ e f. refl, λ h. refl)
only_where true false = (λ e f. sym e, λ h. sym (h refl))
only_where false b = (λ e f. absurd (let z : ◌≡◌ {A = ℕ} 0 1 = cc in omega arith), λ h. refl)

pub lights_passed : (list : List ℕ) (s : State) → (refusal (lights_tests list s) ≡ 0) ↔ Known list s
lights_passed list s =
    let tests = unrefused (lights_tests list s) refl in (
      λ h. let t = tests.0 h in record { of_list = not-false _ t.0; of_state = not-false _ t.1.0 },
      λ h. tests.1 (rw h.of_list, (rw h.of_state, tt)),
    )

pub start_passed : (list : List ℕ) (b : ℕ) (resets : List ℕ) (lent : Lent)
    → (refusal (start_tests list b resets lent) ≡ 0) ↔ CanStart list b resets lent
start_passed list b resets lent =
    let tests = unrefused (start_tests list b resets lent) refl in (
      λ h.
          let t = tests.0 h in
          let (count, within) = neither _ _ t.1.0 in
          let n = eqb-true (length resets) (stations list) (not-false _ count) in
          record {
            of_list = not-false _ t.0;
            count = n;
            within = λ j l. leb-true (get_or resets j 0) b (each_at _ (length resets) (not-false _ within) j (omega arith));
            room = ltb-false (length lent.log) (2 * stations list) t.1.1.0;
            kept_room = room_kept lent t.1.1.1.0;
          },
      λ h. tests.1 (
        rw h.of_list,
        (
          rw (
            eq-eqb (length resets) (stations list) h.count,
            each_all _ (length resets) (λ j l. le-leb (get_or resets j 0) b (h.within j (omega (arith, h.count)))),
          ),
          (le-ltb (length lent.log) (2 * stations list) h.room, (kept_roomy lent h.kept_room, tt)),
        ),
      ),
    )

pub before_passed : (list : List ℕ) (s : State) (lent : Lent) → (refusal (before_pick list s lent) ≡ 0) ↔ CanStep list s lent
before_passed list s lent =
    let tests = unrefused (before_pick list s lent) refl in (
      λ h.
          let t = tests.0 h in
          let sound = not-false _ t.1.0 in
          record {
            of_list = not-false _ t.0;
            of_state = sound;
            steps_left = omega (arith, ((sound_means list s).0 sound).few_steps, eqb-false s.m max_steps t.1.1.0);
            room = omega (arith, ltb-false (length lent.log) (2 * (s.n + s.m + 1)) t.1.1.1.0);
            kept_room = room_kept lent t.1.1.1.1.0;
          },
      λ h. tests.1 (
        rw h.of_list,
        (
          rw h.of_state,
          (
            ne_eqb s.m max_steps (omega (arith, h.steps_left)),
            (le-ltb (length lent.log) (2 * (s.n + s.m + 1)) (omega (arith, h.room)), (kept_roomy lent h.kept_room, tt)),
          ),
        ),
      ),
    )

pub pick_passed : (list : List ℕ) (s : State) (p : Pick) → (refusal (pick_tests list s p) ≡ 0) ↔ CanPick list s p
pick_passed list s p =
    let tests = unrefused (pick_tests list s p) refl in (
      λ h.
          let t = tests.0 h in
          let station = leb-false s.n p.station t.0 in
          record {
            station = station;
            enabled = ready_else list s p.station station t.1.0 t.1.1.0;
            in_turn = not-false _ t.1.1.1.0;
            reset = ltb-false s.b p.reset t.1.1.1.1.0;
          },
      λ h.
          let (going, free) = ready_alone list s p.station h.station h.enabled in
          tests.1 (
            lt-leb s.n p.station h.station,
            (going, (free, (rw h.in_turn, (le-ltb s.b p.reset h.reset, tt)))),
          ),
    )

-- where nothing refuses a step before its pick, the pick's tests decide
pub step_tests_pick : (list : List ℕ) (s : State) (lent : Lent) (p : Pick) → CanStep list s lent
    → refusal (step_tests list s lent p) ≡ refusal (pick_tests list s p)
step_tests_pick list s lent p can =
    ap (λ (a : Answer). a.number)
    (judge_then (before_pick list s lent) (pick_tests list s p)
    ((unrefused (before_pick list s lent) refl).0 ((before_passed list s lent).1 can)))

pub step_passed : (list : List ℕ) (s : State) (lent : Lent) (p : Pick)
    → (refusal (step_tests list s lent p) ≡ 0) ↔ (CanStep list s lent × CanPick list s p)
step_passed list s lent p = (
  λ h.
      let t = (unrefused (step_tests list s lent p) refl).0 h in
      let can = (before_passed list s lent).0 ((unrefused (before_pick list s lent) refl).1 (t.0, (t.1.0, (t.1.1.0, (t.1.1.1.0, (t.1.1.1.1.0, tt)))))) in
      (can, (pick_passed list s p).0 ((unrefused (pick_tests list s p) refl).1 t.1.1.1.1.1)),
  λ h. step_tests_pick list s lent p h.0 ∙ (pick_passed list s p).1 h.1,
)

pub kept_passed : (list kept : List ℕ) (b j : ℕ) → (kept_right list kept b j ≡ true) ↔ RightKept list kept b j
unfolding kept_right
kept_passed list kept b j =
    let s = kept_state kept j in (
      λ h.
          let u = split _ _ h in
          let v = split _ _ u.0 in
          let w = split _ _ v.0 in
          record {
            zeros = w.0;
            of_state = w.1;
            steps = eqb-true s.m (kept_every * j) v.1;
            b_is = eqb-true s.b b u.1;
          },
      λ h. both (both (both h.zeros h.of_state) (eq-eqb s.m (kept_every * j) h.steps)) (eq-eqb s.b b h.b_is),
    )

pub replay_passed : (list : List ℕ) (s : State) (lent : Lent) → (refusal (before_replay list s lent) ≡ 0) ↔ CanReplay list s lent
replay_passed list s lent =
    let tests = unrefused (before_replay list s lent) refl in (
      λ h.
          let t = tests.0 h in
          record {
            of_list = not-false _ t.0;
            of_state = not-false _ t.1.0;
            some_steps = omega (arith, eqb-false s.m 0 t.1.1.0);
            kept_room = room_kept lent t.1.1.1.0;
            kept_used = λ e. (only_where (not (eqb (nearest s.m) 0)) (kept_right list lent.kept s.b (nearest s.m))).0 t.1.1.1.1.0 (rw e);
            room = ltb-false (length lent.log) (2 * (s.n + s.m)) t.1.1.1.1.1.0;
            starts = (only_where (eqb (nearest s.m) 0) (starts_right list s.b lent.log)).0 t.1.1.1.1.1.1.0;
          },
      λ h. tests.1 (
        rw h.of_list,
        (
          rw h.of_state,
          (
            ne_eqb s.m 0 (omega (arith, h.some_steps)),
            (
              kept_roomy lent h.kept_room,
              (
                (only_where (not (eqb (nearest s.m) 0)) (kept_right list lent.kept s.b (nearest s.m))).1 (λ e. h.kept_used (not-true _ e)),
                (
                  le-ltb (length lent.log) (2 * (s.n + s.m)) h.room,
                  ((only_where (eqb (nearest s.m) 0) (starts_right list s.b lent.log)).1 h.starts, tt),
                ),
              ),
            ),
          ),
        ),
      ),
    )

-- where nothing refuses an undo before its replay, the replay decides
pub undo_tests_replay : (list : List ℕ) (s : State) (lent : Lent) → CanReplay list s lent
    → (refusal (undo_tests list s lent) ≡ 0) ↔ ((replayed_near list lent s.b s.m).number ≡ 0)
undo_tests_replay list s lent can =
    let tests = unrefused (undo_tests list s lent) refl in
    let before = (unrefused (before_replay list s lent) refl).0 ((replay_passed list s lent).1 can) in (
      λ h. eqb-true _ 0 (not-false _ (tests.0 h).1.1.1.1.1.1.1.0),
      λ e. tests.1 (
        before.0,
        (
          before.1.0,
          (
            before.1.1.0,
            (
              before.1.1.1.0,
              (before.1.1.1.1.0, (before.1.1.1.1.1.0, (before.1.1.1.1.1.1.0, (rw (eq-eqb _ 0 e), tt)))),
            ),
          ),
        ),
      ),
    )

pub undo_passed : (list : List ℕ) (s : State) (lent : Lent) → (refusal (undo_tests list s lent) ≡ 0) ↔ CanUndo list s lent
undo_passed list s lent = (
  λ h.
      let t = (unrefused (undo_tests list s lent) refl).0 h in
      let can = (replay_passed list s lent).0
      ((unrefused (before_replay list s lent) refl).1 (t.0, (t.1.0, (t.1.1.0, (t.1.1.1.0, (t.1.1.1.1.0, (t.1.1.1.1.1.0, (t.1.1.1.1.1.1.0, tt)))))))) in
      record { before = can; replays = (undo_tests_replay list s lent can).0 h },
  λ h. (undo_tests_replay list s lent h.before).1 h.replays,
)
