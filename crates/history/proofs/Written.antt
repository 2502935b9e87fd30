-- What each call writes into the log, and where. Assumes nothing.
use Rattle.std.specs.Prelude.{if◌then◌else◌}
use mathlib.Core.Path.{◌≡◌, refl, sym, ap, ◌∙◌}
use mathlib.Core.List.{List, [], ◌++◌}
use Prim.Native.Nat.{ℕ, zero, suc, ◌+◌, ◌*◌, ◌≤◌, min, ◌/◌}
use native.Mathlib.Omega.{arith}
use borrow.Author.Tests.{eqb-true}
use lib.Dec.{eqb}
use lib.ListN.{length, take, drop}
use lib.Seq.{drop-cons}
use Rattle.rules.specs.Words.{refusal, written}
use Rattle.rules.specs.Records.{Pick, pick_at, pick_bytes}
use Rattle.rules.specs.State.{State}
use Rattle.rules.specs.Lent.{Lent}
use Rattle.rules.specs.Start.{start, start_records}
use Rattle.rules.specs.Step.{stepped, step}
use Rattle.rules.specs.Run.{steps_from, run_tests, run}
use Rattle.laws.proofs.Choice.{by_test}
use Rattle.laws.proofs.Answers.{start_can, start_written, start_leaves, step_state, step_written, step_leaves}
use Rattle.fair.proofs.Taken.{step_taken}
use Rattle.rules.specs.Calls.{ruled}
use Rattle.rules.specs.History.{CHECK, BUILD, START, STEP, RUN, UNDO, LIGHTS, stepped_on, called}
use Rattle.history.specs.Written.{Put, LogWritten}
use Rattle.laws.proofs.Written.{written_none, length_written, written_more, length_starts}

-- bytes put in, all of them inside the log
put : (log after : List ℕ) (at : ℕ) (bytes : List ℕ) → after ≡ written log at bytes → at + length bytes ≤ length log → Put log after at bytes
put log after at bytes e fits = record { same = e; long = ap length e ∙ length_written log at bytes fits }

put_none : (log after : List ℕ) (at : ℕ) → after ≡ log → Put log after at []
put_none log after at e = record { same = e ∙ sym (written_none log at); long = ap length e }

-- bytes put in, and more right behind them
put_more : (log mid after : List ℕ) (at : ℕ) (bytes more : List ℕ) → at + length bytes ≤ length log → Put log mid at bytes
    → Put mid after (at + length bytes) more → Put log after at (bytes ++ more)
put_more log mid after at bytes more fits p q =
    record { same = q.same ∙ rw p.same (written_more log at bytes more fits); long = q.long ∙ p.long }

start_put : (list : List ℕ) (b : ℕ) (resets : List ℕ) (lent : Lent)
    → Put lent.log (start list b resets lent).lent.log 0 (if eqb (start list b resets lent).number 0 then start_records 0 resets else [])
start_put list b resets lent =
    by_test (eqb (start list b resets lent).number 0)
    (λ y.
    let h = eqb-true _ 0 y in
    let a = start_can list b resets lent h in
    rw y (put lent.log _ 0 (start_records 0 resets) (ap (λ (l : Lent). l.log) (start_written list b resets lent h)) (omega (arith, a.room, a.count, length_starts 0 resets))))
    (λ y. rw y (put_none lent.log _ 0 (ap (λ (l : Lent). l.log) (start_leaves list b resets lent y))))

step_put : (list : List ℕ) (s : State) (lent : Lent) (p : Pick)
    → Put lent.log (step list s lent p).lent.log (2 * (s.n + s.m)) (if eqb (step list s lent p).number 0 then pick_bytes p else [])
step_put list s lent p =
    by_test (eqb (step list s lent p).number 0)
    (λ y.
    let h = eqb-true _ 0 y in
    let (can, c, r) = (step_taken list s lent p).0 h in
    rw y (put lent.log _ _ (pick_bytes p) (ap (λ (l : Lent). l.log) (step_written list s lent p h)) (omega (arith, can.room))))
    (λ y. rw y (put_none lent.log _ _ (ap (λ (l : Lent). l.log) (step_leaves list s lent p y))))

-- a record of the picks, and those behind it
picks_more : (picks : List ℕ) (i k : ℕ) → 2 * suc i ≤ length picks
    → pick_bytes (pick_at picks i) ++ take (2 * k) (drop (2 * suc i) picks) ≡ take (2 * suc k) (drop (2 * i) picks)
picks_more picks i k l =
    let e : 2 * suc i ≡ suc (suc (2 * i)) = omega arith in
    let f : 2 * suc k ≡ suc (suc (2 * k)) = omega arith in
    let g : 2 * i + 1 ≡ suc (2 * i) = omega arith in
    rw (e, f, g, drop-cons picks (2 * i) 0 (omega arith), drop-cons picks (suc (2 * i)) 0 (omega arith))

steps_put : (list picks : List ℕ) (i count : ℕ) (s : State) (lent : Lent) → 2 * (i + count) ≤ length picks
    → let a = steps_from list picks i count s lent in
    Put lent.log a.lent.log (2 * (s.n + s.m)) (take (2 * a.steps) (drop (2 * i) picks))
unfolding steps_from stepped
steps_put list picks i zero s lent l = put_none lent.log lent.log _ refl
steps_put list picks i (suc count) s lent l =
    let p = pick_at picks i in
    let a = step list s lent p in
    by_test (eqb a.number 0)
    (λ y.
    let h = eqb-true _ 0 y in
    let (can, c, r) = (step_taken list s lent p).0 h in
    let next : 2 * (a.state.n + a.state.m) ≡ 2 * (s.n + s.m) + 2 = rw (step_state list s lent p h) (omega arith) in
    rw (y, ← picks_more picks i _ (omega arith))
    (put_more lent.log a.lent.log _ _ (pick_bytes p) _ (omega (arith, can.room))
    (rw y at (step_put list s lent p)) (rw next at (steps_put list picks (suc i) count a.state a.lent (omega arith)))))
    (λ y. rw y (put_none lent.log lent.log _ refl))

run_put : (list : List ℕ) (s : State) (lent : Lent) (picks : List ℕ) (most : ℕ)
    → let a = run list s lent picks most in
    Put lent.log a.lent.log (2 * (s.n + s.m)) (take (2 * a.steps) picks)
unfolding run
run_put list s lent picks most =
    by_test (eqb (refusal (run_tests list s picks)) 0)
    (λ y. rw y (steps_put list picks 0 (min most (length picks / 2)) s lent (omega arith)))
    (λ y. rw y (put_none lent.log lent.log _ refl))

pub log_written : LogWritten ruled
unfolding called stepped_on
log_written list now (CHECK file) = put_none _ _ 0 refl
log_written list now (BUILD file buffer) = put_none _ _ 0 refl
log_written list now (START b resets) = start_put list b resets now.lent
log_written list now (STEP p) = step_put list now.state now.lent p
log_written list now (RUN picks most) = run_put list now.state now.lent picks most
log_written list now UNDO = put_none _ _ 0 refl
log_written list now LIGHTS = put_none _ _ 0 refl
