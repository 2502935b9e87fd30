-- Wrong programs, each by what its calls are like, and that the demands shut them out. What a fraud answers is said where it refuses nothing,
-- unless its point is refusing, or it is the same where the rules refuse. These are definitions and claims: proofs/Frauds.antt and
-- proofs/Waiting.antt show the claims.
use Rattle.std.specs.Prelude.{◌≡◌, ◌≢◌, true, false, not, List, [], ◌∷◌, ◌++◌, ℕ, suc, ◌+◌, ◌*◌, ◌/◌, ◌%◌, ◌≤◌, ◌<◌, eqb, length, take, get_or, ℤ, if◌then◌else◌}
use Rattle.std.proofs.Math.Option.{some}
use Rattle.rules.specs.Words.{changed, written, Answer}
use Rattle.rules.specs.Names.{LENGTH, LIST, ENDED, variables, kept_every}
use Rattle.rules.specs.Records.{Pick, pick_at}
use Rattle.rules.specs.State.{State, zeros, priority, count}
use Rattle.rules.specs.Lent.{Lent}
use Rattle.rules.specs.Kept.{kept_offset, encoded, kept_state}
use Rattle.rules.specs.Ready.{next_step, ended, waiting, ready}
use Rattle.rules.specs.Turn.{charged}
use Rattle.rules.specs.Step.{Stepped, step}
use Rattle.rules.specs.Lights.{Lights, dark}
use Rattle.rules.specs.Calls.{Seven, ruled}
use Rattle.rules.specs.History.{Call, UNDO, Steps, taken, history}
use Rattle.reading.specs.Accepted.{Accepted}
use Rattle.lit.specs.Lit.{bit, AsksOf}
use Rattle.built.specs.Built.{built}
use Rattle.fair.specs.Sound.{Held}
use Rattle.history.specs.Back.{below}
use Rattle.history.specs.Passed.{FewLow, PassedOver}
use Rattle.demands.specs.Order.{before_steps}
use Rattle.demands.specs.Runs.{Singles}
use Rattle.demands.specs.Lights.{Lit}
use Rattle.demands.specs.Demands.{Demand1, Demand2}

-- a state with another m, and with other priorities
abbrev pub with_m : State → ℕ → State
with_m s m = record { vars = s.vars; positions = s.positions; priorities = s.priorities; counts = s.counts; n = s.n; b = s.b; m = m }

abbrev pub with_priorities : State → List ℤ → State
with_priorities s z = record { vars = s.vars; positions = s.positions; priorities = z; counts = s.counts; n = s.n; b = s.b; m = s.m }

-- what is lit after any calls by a program that remembers; that it is what demand 2 asks; and that after an undo some part of it is what it
-- was before
abbrev pub Remembering : Type 0
Remembering = List ℕ → State → Lent → List Call → Lights

abbrev pub AsAsked : Seven → Remembering → Type 0
AsAsked bench lit =
    (list : List ℕ) (s : State) (lent : Lent) (calls : List Call) (steps : Steps) → (history bench list s lent calls).standing ≡ some steps
    → Lit list (history bench list s lent calls).state (lit list s lent calls)

abbrev pub Keeps : {A : Type 0} → Seven → Remembering → (Lights → A) → Type 0
Keeps bench lit part =
    (list : List ℕ) (s : State) (lent : Lent) (calls : List Call) (steps : Steps) (p : Pick) (t : State)
    → (history bench list s lent calls).standing ≡ some (taken steps p t)
    → part (lit list s lent (calls ++ (UNDO ∷ []))) ≡ part (lit list s lent calls)

-- the frauds of the run calls
pub record ShutOut (bench : Seven) : Type 0 where
  -- "one that refuses always": a RUN, wherever a step is asked for
  pub start_refuses : ((list : List ℕ) (b : ℕ) (resets : List ℕ) (lent : Lent) → (bench.start list b resets lent).number ≢ 0) → ⊥
  pub step_refuses : ((list : List ℕ) (s : State) (lent : Lent) (p : Pick) → (bench.step list s lent p).number ≢ 0) → ⊥
  pub run_refuses : ((list : List ℕ) (s : State) (lent : Lent) (picks : List ℕ) (most : ℕ) → 1 ≤ most → 1 ≤ length picks / 2
      → (bench.run list s lent picks most).number ≢ 0) → ⊥
  pub undo_refuses : ((list : List ℕ) (s : State) (lent : Lent) → (bench.undo list s lent).number ≢ 0) → ⊥
  pub lights_refuses : ((list : List ℕ) (s : State) → (bench.lights list s).number ≢ 0) → ⊥
  -- "one with a constant answer": a RUN, wherever it takes a step
  pub start_constant : (t : State)
      → ((list : List ℕ) (b : ℕ) (resets : List ℕ) (lent : Lent) → (bench.start list b resets lent).number ≡ 0 → (bench.start list b resets lent).state ≡ t) → ⊥
  pub step_constant : (t : State)
      → ((list : List ℕ) (s : State) (lent : Lent) (p : Pick) → (bench.step list s lent p).number ≡ 0 → (bench.step list s lent p).state ≡ t) → ⊥
  pub run_constant : (t : State) (k : ℕ)
      → ((list : List ℕ) (s : State) (lent : Lent) (picks : List ℕ) (most : ℕ) → 1 ≤ (bench.run list s lent picks most).steps
      → (bench.run list s lent picks most).number ≡ 0
      → ((bench.run list s lent picks most).state ≡ t) × ((bench.run list s lent picks most).steps ≡ k)) → ⊥
  pub undo_constant : (t : State)
      → ((list : List ℕ) (s : State) (lent : Lent) → (bench.undo list s lent).number ≡ 0 → (bench.undo list s lent).state ≡ t) → ⊥
  pub lights_constant : (a : Lights) → ((list : List ℕ) (s : State) → (bench.lights list s).number ≡ 0 → bench.lights list s ≡ a) → ⊥
  -- "one that writes nothing"
  pub start_writes_nothing : ((list : List ℕ) (b : ℕ) (resets : List ℕ) (lent : Lent) → (bench.start list b resets lent).lent ≡ lent) → ⊥
  pub step_writes_nothing : ((list : List ℕ) (s : State) (lent : Lent) (p : Pick) → (bench.step list s lent p).lent ≡ lent) → ⊥
  pub run_writes_nothing : ((list : List ℕ) (s : State) (lent : Lent) (picks : List ℕ) (most : ℕ) → (bench.run list s lent picks most).lent ≡ lent) → ⊥
  -- "one that makes the first step truly and afterwards only advances m": of the steps taken, single or in a run from the start
  pub step_only_m : ((list : List ℕ) (s : State) (lent : Lent) (p : Pick) → 1 ≤ s.m → (bench.step list s lent p).number ≡ 0
      → (bench.step list s lent p).state ≡ with_m s (s.m + 1)) → ⊥
  pub run_only_m : ((list : List ℕ) (s : State) (lent : Lent) (picks : List ℕ) (most : ℕ) → s.m ≡ 0 → 1 ≤ (bench.run list s lent picks most).steps
      → (bench.run list s lent picks most).number ≡ 0
      → (bench.run list s lent picks most).state
      ≡ with_m (bench.step list s lent (pick_at picks 0)).state (bench.run list s lent picks most).steps) → ⊥
  -- "a RUN with an invented number of steps": another than that of the single steps that lead to its state
  pub run_invents : (list : List ℕ) (s : State) (lent : Lent) (picks : List ℕ) (most k : ℕ) → Held s
      → Singles bench list picks s lent k (bench.run list s lent picks most).state (bench.run list s lent picks most).lent
      → (bench.run list s lent picks most).steps ≢ k → ⊥
  -- a RUN that never takes a step
  pub run_idle : ((list : List ℕ) (s : State) (lent : Lent) (picks : List ℕ) (most : ℕ) → before_steps list s picks ≡ 0
      → (bench.run list s lent picks most).steps ≡ 0) → ⊥
  -- LIGHTS that are always dark
  pub lights_dark : ((list : List ℕ) (s : State) → (bench.lights list s).number ≡ 0
      → bench.lights list s ≡ record { number = 0; ready = 0; in_turn = 0; waiting = 0; ended = 0; rows = dark ∷ dark ∷ [] }) → ⊥
  -- "lights kept from before" an undo, which takes a program that remembers: the stations lit as ready, and the two rows
  pub lights_kept : (lit : Remembering) → AsAsked bench lit → Keeps bench lit (λ a. a.ready) → ⊥
  pub rows_kept : (lit : Remembering) → AsAsked bench lit → Keeps bench lit (λ a. a.rows) → ⊥
  -- LIGHTS by which a waiting station writes, reads what its condition does not ask of, or does not read what it asks of
  pub waiting_writes : (list : List ℕ) (s : State) → (bench.lights list s).number ≡ 0 → (j : ℕ) → j < s.n → waiting list s j ≡ true
      → (v : ℕ) → v < variables → bit (get_or (get_or (bench.lights list s).rows 1 []) v 0) j ≡ true → ⊥
  pub waiting_reads : (list : List ℕ) (s : State) → (bench.lights list s).number ≡ 0 → (j : ℕ) → j < s.n → waiting list s j ≡ true
      → (v : ℕ) → v < variables → bit (get_or (get_or (bench.lights list s).rows 0 []) v 0) j ≡ true
      → (AsksOf (next_step list s j).own v → ⊥) → ⊥
  pub waiting_misses : (list : List ℕ) (s : State) → (bench.lights list s).number ≡ 0 → (j : ℕ) → j < s.n → waiting list s j ≡ true
      → (v : ℕ) → v < variables → bit (get_or (get_or (bench.lights list s).rows 0 []) v 0) j ≡ false
      → AsksOf (next_step list s j).own v → ⊥
  -- "Undo that restores variables but not priorities", in any history
  pub undo_priorities : (list : List ℕ) (s : State) (lent : Lent) (calls : List Call) (steps : Steps)
      → (history bench list s lent calls).standing ≡ some steps
      → let now = history bench list s lent calls in
      (bench.undo list now.state now.lent).state.priorities ≢ (below steps).state.priorities → ⊥
  -- "Lowering the priority number of a waiting station", by any step
  pub waiting_charged : (list : List ℕ) (s : State) (lent : Lent) (p : Pick) → Held s → (bench.step list s lent p).number ≡ 0
      → (j : ℕ) → j < s.n → waiting list s j ≡ true → priority (bench.step list s lent p).state j ≢ priority s j → ⊥
  -- "Judging readiness after the step, so the station just released is charged"
  pub judged_late : (list : List ℕ) (s : State) (lent : Lent) (p : Pick) → Held s → (bench.step list s lent p).number ≡ 0
      → (j : ℕ) → j < s.n → ready list s j ≡ false → ready list (bench.step list s lent p).state j ≡ true
      → priority (bench.step list s lent p).state j ≢ priority s j → ⊥
  -- document 02, T-05: an undo that does not give back the counts, in any history
  pub undo_counts : (list : List ℕ) (s : State) (lent : Lent) (calls : List Call) (steps : Steps)
      → (history bench list s lent calls).standing ≡ some steps
      → let now = history bench list s lent calls in
      (bench.undo list now.state now.lent).state.counts ≢ (below steps).state.counts → ⊥
  -- a step that counts a station that was not ready, be it waiting, ended or just released; one that does not clear the count of its own station;
  -- and one that does not count a station that it passed over
  pub unready_counted : (list : List ℕ) (s : State) (lent : Lent) (p : Pick) → Held s → (bench.step list s lent p).number ≡ 0
      → (j : ℕ) → j < s.n → ready list s j ≡ false → count (bench.step list s lent p).state j ≢ count s j → ⊥
  pub picked_uncleared : (list : List ℕ) (s : State) (lent : Lent) (p : Pick) → Held s → (bench.step list s lent p).number ≡ 0
      → count (bench.step list s lent p).state p.station ≢ 0 → ⊥
  pub passed_uncounted : (list : List ℕ) (s : State) (lent : Lent) (p : Pick) → Held s → (bench.step list s lent p).number ≡ 0
      → (j : ℕ) → j < s.n → j ≢ p.station → ready list s j ≡ true → count (bench.step list s lent p).state j ≢ suc (count s j) → ⊥
  -- a STEP that says of a station that has ended only that it is not ready, and one that says of a waiting station that it has ended
  pub ended_untold : ((list : List ℕ) (s : State) (lent : Lent) (p : Pick) → (bench.step list s lent p).number ≢ ENDED) → ⊥
  pub waiting_ended : (list : List ℕ) (s : State) (lent : Lent) (p : Pick) → waiting list s p.station ≡ true
      → (bench.step list s lent p).number ≡ ENDED → ⊥
  -- a STEP that reaches a multiple of 64 and keeps the state before it, and one that keeps none, unless the kept place had the state already
  pub keeps_old : (list : List ℕ) (s : State) (lent : Lent) (p : Pick) → Held s → (bench.step list s lent p).number ≡ 0
      → (s.m + 1) % kept_every ≡ 0
      → (bench.step list s lent p).lent.kept ≡ written lent.kept (kept_offset ((s.m + 1) / kept_every)) (encoded s) → ⊥
  pub keeps_none : (list : List ℕ) (s : State) (lent : Lent) (p : Pick) → Held s → (bench.step list s lent p).number ≡ 0
      → (s.m + 1) % kept_every ≡ 0 → kept_state lent.kept ((s.m + 1) / kept_every) ≢ (bench.step list s lent p).state
      → (bench.step list s lent p).lent.kept ≡ lent.kept → ⊥
  -- a START that stores another B than it was given
  pub another_b : (list : List ℕ) (b : ℕ) (resets : List ℕ) (lent : Lent) → (bench.start list b resets lent).number ≡ 0
      → (bench.start list b resets lent).state.b ≢ b → ⊥

-- "Demand 2 shuts out all four"
abbrev pub ByDemand2 : Type 0
ByDemand2 = (bench : Seven) → Demand2 bench → ShutOut bench

-- "for check and build, with the tests and list rules above": the same frauds of those two
pub record CheckShutOut (bench : Seven) : Type 0 where
  pub check_refuses : ((file : List ℕ) → (bench.check file).number ≢ 0) → ⊥
  pub build_refuses : ((file buffer : List ℕ) → (bench.build file buffer).number ≢ 0) → ⊥
  -- a constant answer to every file, and a constant place to every file that it refuses
  pub check_constant : (a : Answer) → ((file : List ℕ) → bench.check file ≡ a) → ⊥
  pub check_one_place : (place : ℕ) → ((file : List ℕ) → (bench.check file).number ≢ 0 → (bench.check file).place ≡ place) → ⊥
  pub build_constant : (count : ℕ)
      → ((file buffer : List ℕ) → (bench.build file buffer).number ≡ 0 → (bench.build file buffer).count ≡ count) → ⊥
  pub build_writes_nothing : ((file buffer : List ℕ) → (bench.build file buffer).buffer ≡ buffer) → ⊥
  -- a BUILD that leaves another list than the file's
  pub another_list : (file buffer : List ℕ) → (bench.build file buffer).number ≡ 0
      → take (16 * (bench.build file buffer).count) (bench.build file buffer).buffer ≢ built file → ⊥

abbrev pub WithTests : Type 0
WithTests = (bench : Seven) → Demand1 bench → Demand2 bench → CheckShutOut bench

-- the rules' calls, but that a step charges waiting stations too
abbrev charge_waiting : List ℕ → State → Lent → Pick → Stepped
charge_waiting list s lent p =
    let a = step list s lent p in
    let z = changed (λ j. charged (eqb j p.station) (not (ended list s j)) p.reset) s.n s.priorities in
    if eqb a.number 0 then record { number = 0; state = with_priorities a.state z; lent = a.lent } else a

abbrev pub charging : Seven
charging =
    record {
      check = ruled.check;
      build = ruled.build;
      start = ruled.start;
      step = charge_waiting;
      run = ruled.run;
      undo = ruled.undo;
      lights = ruled.lights;
    }

-- "then demand 3's bound on k breaks", on a list made from an accepted sequence, by steps alone
abbrev pub WaitingBreaks : Type 0
WaitingBreaks =
    ((file : List ℕ) → Accepted file → (s : State) (lent : Lent) (calls : List Call) (steps : Steps)
    → (history charging (built file) s lent calls).standing ≡ some steps → FewLow (built file) (history charging (built file) s lent calls).state) → ⊥

-- calls that refuse everything
abbrev pub idle : Seven
idle =
    record {
      check = λ file. record { number = LENGTH; place = 0 };
      build = λ file buffer. record { number = LENGTH; place = 0; count = 0; buffer = buffer };
      start = λ list b resets lent. record { number = LIST; state = zeros; lent = lent };
      step = λ list s lent p. record { number = LIST; state = s; lent = lent };
      run = λ list s lent picks most. record { number = LIST; state = s; steps = 0; lent = lent };
      undo = λ list s lent. record { number = LIST; state = s };
      lights = λ list s. record { number = LIST; ready = 0; in_turn = 0; waiting = 0; ended = 0; rows = dark ∷ dark ∷ [] };
    }

-- "Demand 3 alone would let idle programs by": its bounds do, which is why it is over demand 2
abbrev pub IdleBounds : Type 0
IdleBounds = PassedOver idle
