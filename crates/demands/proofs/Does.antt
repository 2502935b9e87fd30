-- What the rules' BUILD, START, STEP and UNDO do where they are not refused; and that this leaves one answer. Assumes nothing.
use mathlib.Core.Path.{◌≡◌, sym, ap, ◌∙◌}
use mathlib.Core.List.{List}
use Prim.Native.Nat.{ℕ, ◌*◌, ◌≤◌, ◌<◌}
use native.Mathlib.Nat.{zero-add}
use native.Mathlib.Omega.{arith}
use borrow.Author.Tests.{eqb-true, eqb-false, eq-eqb, ltb-true, ltb-false}
use lib.Dec.{eqb, ltb}
use lib.ListN.{length, drop, get_or, take-append-drop, get_or-eq_default}
use lib.Seq.{take_at, drop_at, get_or-set_same, get_or-set_other, ext_get_or}
use lib.IntN.{pos}
use Rattle.rules.specs.Words.{written, refusal}
use Rattle.rules.specs.Names.{max_stations}
use Rattle.rules.specs.Records.{Pick}
use Rattle.rules.specs.Check.{check}
use Rattle.rules.specs.Build.{Built, bytes_of, list_records, build}
use Rattle.rules.specs.List.{stations}
use Rattle.rules.specs.State.{State, position, priority, count}
use Rattle.rules.specs.Start.{started}
use Rattle.rules.specs.Step.{stepped}
use Rattle.rules.specs.Undo.{undo_tests, undo}
use Rattle.rules.specs.Calls.{ruled}
use Rattle.laws.proofs.Choice.{by_test}
use Rattle.reading.specs.Accepted.{Accepted}
use Rattle.built.proofs.Bytes.{length_bytes_of}
use Rattle.laws.proofs.Sound.{sound_means}
use Rattle.laws.proofs.Sound.{few_stations}
use Rattle.fair.proofs.Begun.{start_priority, start_count, start_position, no_position, start_sound}
use Rattle.fair.proofs.Charge.{rest_kept}
use Rattle.fair.proofs.Taken.{step_taken}
use Rattle.fair.proofs.Held.{step_held}
use Rattle.fair.proofs.Relation.{step_fair, step_counts, update_only, counted_only}
use Rattle.laws.proofs.Passed.{start_passed}
use Rattle.laws.proofs.Answers.{build_number, undo_number, start_number, start_can, start_state, start_written, step_state, step_written}
use Rattle.demands.specs.Does.{Lays, BuildLays, StartTaken, Begins, StartBegins, Does, StepDoes, UndoReplays}
use Rattle.demands.proofs.Order.{build_order}
use Rattle.reading.proofs.Passed.{accepted_is}

-- BUILD
made_accepted : (file buffer : List ℕ) → (build file buffer).number ≡ 0 → Accepted file
made_accepted file buffer e =
    by_test (eqb (check file).number 0)
    (λ y. (accepted_is file).0 (eqb-true _ 0 y))
    (λ y. absurd (eqb-false _ 0 y (sym (rw y at (build_order file buffer).0) ∙ e)))

pub build_lays : BuildLays ruled
unfolding build written
build_lays file buffer e =
    let es = list_records file in
    let y = eq-eqb _ 0 (sym (build_number file buffer) ∙ e) in
    let long : length (bytes_of es) ≡ 16 * length es = length_bytes_of es in
    record {
      accepted = made_accepted file buffer e;
      counted = rw y;
      list_is = rw y (take_at (bytes_of es) _ (16 * length es) long);
      rest_stays = rw y (drop_at (bytes_of es) _ (16 * length es) long ∙ ap (λ (k : ℕ). drop k buffer) (zero-add _ ∙ long));
    }

-- two lists of eight places are the same where every place is
eight_same : {A : Type 0} (d : A) (xs ys : List A) → length xs ≡ max_stations → length ys ≡ max_stations
    → ((j : ℕ) → get_or xs j d ≡ get_or ys j d) → xs ≡ ys
eight_same d xs ys m n same = ext_get_or d xs ys (m ∙ sym n) (λ j l. same j)

states_same : (s t : State) → s.vars ≡ t.vars → s.positions ≡ t.positions → s.priorities ≡ t.priorities → s.counts ≡ t.counts
    → s.n ≡ t.n → s.b ≡ t.b → s.m ≡ t.m → s ≡ t
states_same s t vars positions priorities counts n b m =
    λ i. record { vars = vars i; positions = positions i; priorities = priorities i; counts = counts i; n = n i; b = b i; m = m i }

-- what each place below n is, and what each from n on is, is what every place is
each_place : {A : Type 0} (n : ℕ) (x y : ℕ → A) → ((j : ℕ) → j < n → x j ≡ y j) → ((j : ℕ) → n ≤ j → x j ≡ y j) → (j : ℕ) → x j ≡ y j
each_place n x y low high j =
    by_test (ltb j n) (λ l. low j (ltb-true j n l)) (λ l. high j (ltb-false j n l))

-- START
pub start_when : StartTaken ruled
start_when list b resets lent = (
  start_can list b resets lent,
  λ c. start_number list b resets lent ∙ (start_passed list b resets lent).1 c,
)

pub start_begins : StartBegins ruled
unfolding started
start_begins list b resets lent e =
    let t = start_can list b resets lent e in
    let state = start_state list b resets lent e in
    let past : (j : ℕ) → stations list ≤ j → get_or resets j 0 ≡ 0 = λ j l. get_or-eq_default resets 0 (omega (arith, t.count)) in (
      record {
        held = (start_sound list b resets lent e).1;
        vars = rw state;
        positions = λ j l. rw state (start_position list b resets j l);
        priorities = λ j l. rw state (start_priority list b resets j);
        rest = λ j l. (
          rw state (no_position list b resets j l),
          rw state (start_priority list b resets j ∙ ap pos (past j l)),
        );
        counts = λ j. rw state (start_count list b resets j);
        n_is = rw state;
        b_is = rw state;
        m_is = rw state;
      },
      start_written list b resets lent e,
    )

pub begins_only : {list : List ℕ} {b : ℕ} {resets : List ℕ} {s t : State} → Begins list b resets s → Begins list b resets t → s ≡ t
begins_only {list} {b} {resets} {s} {t} x y =
    states_same s t (x.vars ∙ sym y.vars)
    (eight_same 0 s.positions t.positions x.held.positions y.held.positions
    (each_place (stations list) (position s) (position t) (λ j l. x.positions j l ∙ sym (y.positions j l))
    (λ j l. (x.rest j l).0 ∙ sym (y.rest j l).0)))
    (eight_same (pos 0) s.priorities t.priorities x.held.priorities y.held.priorities
    (each_place (stations list) (priority s) (priority t) (λ j l. x.priorities j l ∙ sym (y.priorities j l))
    (λ j l. (x.rest j l).1 ∙ sym (y.rest j l).1)))
    (eight_same 0 s.counts t.counts x.held.counts y.held.counts (λ j. x.counts j ∙ sym (y.counts j)))
    (x.n_is ∙ sym y.n_is) (x.b_is ∙ sym y.b_is) (x.m_is ∙ sym y.m_is)

-- STEP
pub step_does : StepDoes ruled
unfolding stepped
step_does list s lent p held e =
    let f = step_fair list s lent p held e in
    let t = step_state list s lent p e in
    let (can, c, r) = (step_taken list s lent p).0 e in
    let there : p.station < length s.positions =
    omega (arith, c.station, held.positions, few_stations list can.of_list, ((sound_means list s).0 can.of_state).of_list) in (
      record {
        held = step_held list s lent p held;
        chosen = f.0;
        vars = rw t;
        positions = λ j. rw t
            (by_test (eqb j p.station)
            (λ y. rw (y, eqb-true j p.station y) (get_or-set_same s.positions p.station _ 0 there))
            (λ y. rw y (get_or-set_other s.positions p.station j _ 0 (eqb-false j p.station y))));
        priorities = f.1;
        counts = step_counts list s lent p held e;
        rest = λ j l. rw t (rest_kept list s p j l);
        n_is = rw t;
        b_is = rw t;
        m_is = rw t;
      },
      step_written list s lent p e,
    )

pub does_only : {list : List ℕ} {s : State} {p : Pick} {t u : State} → Does list s p t → Does list s p u → t ≡ u
does_only {list} {s} {p} {t} {u} x y =
    states_same t u (x.vars ∙ sym y.vars)
    (eight_same 0 t.positions u.positions x.held.positions y.held.positions (λ j. x.positions j ∙ sym (y.positions j)))
    (eight_same (pos 0) t.priorities u.priorities x.held.priorities y.held.priorities
    (each_place s.n (priority t) (priority u) (update_only _ _ _ _ _ _ _ _ x.priorities y.priorities) (λ j l. (x.rest j l).0 ∙ sym (y.rest j l).0)))
    (eight_same 0 t.counts u.counts x.held.counts y.held.counts
    (each_place s.n (count t) (count u) (counted_only _ _ _ _ _ _ x.counts y.counts) (λ j l. (x.rest j l).1 ∙ sym (y.rest j l).1)))
    (x.n_is ∙ sym y.n_is) (x.b_is ∙ sym y.b_is) (x.m_is ∙ sym y.m_is)

-- UNDO
pub undo_replays : UndoReplays ruled
unfolding undo
undo_replays list s lent e = rw (eq-eqb (refusal (undo_tests list s lent)) 0 (sym (undo_number list s lent) ∙ e))

-- BUILD's answer is what it lays, its number and its place
pub lays_only : {file buffer : List ℕ} {a b : Built} → a.number ≡ b.number → a.place ≡ b.place → Lays file buffer a → Lays file buffer b → a ≡ b
lays_only {file} {buffer} {a} {b} number place x y =
    let count = x.counted ∙ sym y.counted in
    let left : a.buffer ≡ b.buffer =
    sym (take-append-drop (16 * a.count) a.buffer)
    ∙ rw (x.list_is, x.rest_stays, count) (rw (sym y.list_is, sym y.rest_stays) (take-append-drop (16 * b.count) b.buffer)) in
    λ i. record { number = number i; place = place i; count = count i; buffer = left i }
