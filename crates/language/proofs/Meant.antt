-- What Demand2 claims of the records of an accepted file's list and of its steps. Assumes nothing.
use mathlib.Core.Path.{◌≡◌, refl, sym, ap, ◌∙◌}
use mathlib.Core.Logic.{◌↔◌, ◌≢◌}
use mathlib.Core.Bool.{true}
use mathlib.Core.List.{List}
use Prim.Native.Nat.{ℕ, ◌<◌}
use native.Mathlib.Omega.{arith}
use borrow.Author.Tests.{ltb-true, ltb-false, eqb-true, eqb-false}
use lib.Dec.{eqb, ltb}
use lib.ListN.{length, get_or, set, length-set, get_or-eq_default}
use lib.Seq.{ext_get_or, get_or-set_same, get_or-set_other}
use Rattle.rules.specs.Words.{values}
use Rattle.rules.specs.Names.{AWAIT, STOP}
use Rattle.rules.specs.Records.{ListRecord, list_count, Pick}
use Rattle.rules.specs.State.{State, position}
use Rattle.rules.specs.Ready.{next_step, says_ready, ready}
use Rattle.rules.specs.Move.{body_run, step_vars, step_position}
use Rattle.rules.specs.Step.{stepped}
use Rattle.laws.proofs.Choice.{by_test}
use Rattle.laws.proofs.Places.{length_values, get_or_values}
use Rattle.reading.specs.Accepted.{Accepted}
use Rattle.reading.proofs.One.{reading_is}
use Rattle.built.specs.Built.{built}
use Rattle.laws.proofs.Sound.{sound_means}
use Rattle.laws.proofs.Ready.{readiness_here}
use Rattle.laws.proofs.Answers.{step_state}
use Rattle.fair.proofs.Taken.{step_taken}
use Rattle.language.specs.Language.{await_end, Program, E, ◌before◌, ⟨◌∣◌⟩⟶⟨◌∣◌⟩, ⟨◌∣◌⟩⟶*⟨◌∣◌⟩, component, Moves, parallel_rule, Enabled}
use Rattle.language.specs.Rests.{stands_for}
use Rattle.language.specs.Claims.{Determined, StopEnds, BodyRuns, Standing, SoundStanding, programs, ReadyEnabled, StationMoves, StepMoves, TakenMoves}
use Rattle.language.proofs.Sequence.{not_empty}
use Rattle.language.proofs.Determined.{determined, one_end, moving_enabled}
use Rattle.language.proofs.Matched.{Matches, at_skip, at_assign, at_if, at_while, at_await, at_stop}
use Rattle.language.proofs.Moves.{goes, moves, halts}
use Rattle.language.proofs.Placed.{outside_is, outside_match}

pub transitions_determined : Determined
transitions_determined S T U σ τ υ d c = determined d c

module _ (list : List ℕ) (means : ℕ → Program) where
  stop_match : {e : ListRecord} {S : Program} → Matches list means e S → (e.own.kind ≡ STOP) ↔ (S ≡ E)
  stop_match (at_skip m) = (λ k. absurd (omega arith), not_empty)
  stop_match (at_assign i m) = (λ k. absurd (omega arith), not_empty)
  stop_match (at_if i m n) = (λ k. absurd (omega arith), not_empty)
  stop_match (at_while i m n) = (λ k. absurd (omega arith), not_empty)
  stop_match (at_await i b m) = (λ k. absurd (omega arith), not_empty)
  stop_match at_stop = (λ k. refl, λ f. refl)

  -- an AWAIT, and its body
  await_match : {e : ListRecord} {S : Program} → Matches list means e S → e.own.kind ≡ AWAIT
      → (T : Program) × (U : Program) × (S ≡ await_end e.own T before U)
      × ((σ τ : List ℕ) → ⟨ T ∣ σ ⟩⟶*⟨ E ∣ τ ⟩ ↔ (τ ≡ body_run list (list_count list) e.t1 σ))
  await_match (at_skip m) k = absurd (omega arith)
  await_match (at_assign i m) k = absurd (omega arith)
  await_match (at_if i m n) k = absurd (omega arith)
  await_match (at_while i m n) k = absurd (omega arith)
  await_match (at_await {S = S} {K = K} i body m) k = (S, K, refl, λ σ τ. (λ d. one_end d (body σ), λ e. rw e (body σ)))
  await_match at_stop k = absurd (omega arith)

-- the component that is active
active : {i : ℕ} {Rs Ss : List Program} {σ τ : List ℕ} → Moves i Rs σ Ss τ
    → (T : Program) × ⟨ component Rs i ∣ σ ⟩⟶⟨ T ∣ τ ⟩ × (Ss ≡ set Rs i T)
active (parallel_rule {T = T} l d) = (T, d, refl)

-- one entry changes
values_set : {A : Type 0} (f g : ℕ → A) (n i : ℕ) (a d : A) → i < n → g i ≡ a → ((j : ℕ) → j ≢ i → g j ≡ f j)
    → set (values f n) i a ≡ values g n
values_set f g n i a d l e h =
    let old = length_values f n in
    let new = length_values g n in
    let same = length-set (values f n) i a in
    ext_get_or d (set (values f n) i a) (values g n) (omega arith) (λ j k. at j (omega arith))
  where
    at : (j : ℕ) → j < n → get_or (set (values f n) i a) j d ≡ get_or (values g n) j d
    at j k =
        let old = length_values f n in
        by_test (eqb j i)
        (λ t. let z : j ≡ i = eqb-true j i t in
        rw z (get_or-set_same (values f n) i a d (omega arith) ∙ sym e ∙ sym (get_or_values g n i d l)))
        (λ t. let z : j ≢ i = eqb-false j i t in
        get_or-set_other (values f n) i j a d z ∙ get_or_values f n j d k ∙ sym (h j z) ∙ sym (get_or_values g n j d k))

module _ (file : List ℕ) (bytes : (i : ℕ) → get_or file i 0 < 256) (accepted : Accepted file) where
  pub stop_ends : StopEnds file
  stop_ends j p o = stop_match (built file) (stands_for file j) (outside_match file bytes accepted j p o)

  pub body_runs : BodyRuns file
  body_runs j p o = await_match (built file) (stands_for file j) (outside_match file bytes accepted j p o)

  module _ (s : State) (standing : Standing file s) (i : ℕ) (l : i < s.n) where
    abbrev e : ListRecord
    e = next_step (built file) s i

    matches : Matches (built file) (stands_for file i) e (stands_for file i (position s i))
    matches = outside_match file bytes accepted i (position s i) (standing i l)

    ready_goes : ready (built file) s i ≡ goes s.vars e (position s i)
    unfolding ready
    ready_goes = ap says_ready (readiness_here (built file) s i l)

    component_is : component (programs file s) i ≡ stands_for file i (position s i)
    component_is = get_or_values (λ j. stands_for file j (position s j)) s.n i E l

    -- a ready station moves
    move : ready (built file) s i ≡ true
        → ⟨ stands_for file i (position s i) ∣ s.vars ⟩⟶⟨ stands_for file i (step_position s.vars e) ∣ step_vars (built file) s.vars e ⟩
    move r = moves (built file) (stands_for file i) s.vars (position s i) matches (sym ready_goes ∙ r)

    ready_is : (ready (built file) s i ≡ true) ↔ Enabled (component (programs file s) i) s.vars
    ready_is = (
      λ r. rw component_is (moving_enabled (move r)),
      λ h. by_test (ready (built file) s i) (λ r. r)
          (λ r. absurd (h (rw component_is (halts (built file) (stands_for file i) s.vars (position s i) matches (sym ready_goes ∙ r))))),
    )

    station_is : (T : Program) (τ : List ℕ) → ⟨ component (programs file s) i ∣ s.vars ⟩⟶⟨ T ∣ τ ⟩
        ↔ ((ready (built file) s i ≡ true) × (T ≡ stands_for file i (step_position s.vars e)) × (τ ≡ step_vars (built file) s.vars e))
    station_is T τ = (
      λ d.
          let r = ready_is.1 (moving_enabled d) in
          let both = determined (rw component_is at d) (move r) in
          (r, both.0, both.1),
      λ h. rw (component_is, h.1, h.2) (move h.0),
    )

    -- a position that is an outside record is there
    there : i < length s.positions
    there =
        by_test (ltb i (length s.positions)) (ltb-true i (length s.positions))
        (λ t.
        let none = get_or-eq_default s.positions 0 {n = i} (ltb-false i (length s.positions) t) in
        let here = outside_is file bytes accepted i (position s i) (standing i l) in
        absurd (omega (arith, here.late, (reading_is file accepted).one_at_least)))

    module _ (reset : ℕ) where
      abbrev p : Pick
      p = record { station = i; reset = reset }

      -- what the positions stand for after the step
      programs_after : set (programs file s) i (stands_for file i (step_position s.vars e)) ≡ programs file (stepped (built file) s p)
      unfolding stepped
      programs_after =
          let q : ℕ = step_position s.vars e in
          values_set (λ j. stands_for file j (position s j)) (λ j. stands_for file j (get_or (set s.positions i q) j 0)) s.n i (stands_for file i q) E l
          (ap (stands_for file i) (get_or-set_same s.positions i q 0 there))
          (λ j z. ap (stands_for file j) (get_or-set_other s.positions i j q 0 z))

      step_is : (Ss : List Program) (τ : List ℕ) → Moves i (programs file s) s.vars Ss τ
          ↔ ((ready (built file) s i ≡ true) × (Ss ≡ programs file (stepped (built file) s p)) × (τ ≡ (stepped (built file) s p).vars))
      unfolding stepped
      step_is Ss τ = (
        λ m.
            let (T, d, f) = active m in
            let h = (station_is T τ).0 d in
            (h.0, f ∙ ap (set (programs file s) i) h.1 ∙ programs_after, h.2),
        λ h. rw (h.1, h.2, ← programs_after) (parallel_rule {Ss = programs file s} (rw length_values l) ((station_is _ _).1 (h.0, refl, refl))),
      )

  pub ready_enabled : ReadyEnabled file
  ready_enabled = ready_is

  pub station_moves : StationMoves file
  station_moves = station_is

  pub step_moves : StepMoves file
  step_moves s standing p l = step_is s standing p.station l p.reset

  pub sound_standing : SoundStanding file
  sound_standing s h = ((sound_means (built file) s).0 h).placed

  pub taken_moves : TakenMoves file
  taken_moves s lent p h =
      let t = (step_taken (built file) s lent p).0 h in
      rw (step_state (built file) s lent p h) ((step_moves s (sound_standing s t.0.of_state) p t.1.station _ _).1 (t.1.enabled, refl, refl))
