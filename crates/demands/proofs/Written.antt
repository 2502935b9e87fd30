-- On a list made from a sequence the rules' steps are those of the written sequence. Assumes nothing.
use mathlib.Core.Path.{◌≡◌, sym, ap, ◌∙◌}
use mathlib.Core.List.{List}
use Prim.Native.Nat.{ℕ, ◌*◌, ◌<◌}
use native.Mathlib.Omega.{arith}
use borrow.Author.Tests.{eq-eqb, le-ltb, le-leb}
use lib.ListN.{length, get_or}
use Rattle.rules.specs.Names.{max_kept, kept_length}
use Rattle.rules.specs.Records.{Pick}
use Rattle.rules.specs.Trees.{stations_of, initial_part}
use Rattle.rules.specs.List.{stations}
use Rattle.rules.specs.State.{State, position}
use Rattle.rules.specs.Lent.{Lent}
use Rattle.rules.specs.Step.{step}
use Rattle.rules.specs.Calls.{ruled}
use Rattle.laws.proofs.Places.{each_all, length_values}
use Rattle.reading.specs.Accepted.{Accepted}
use Rattle.reading.proofs.One.{reading_is, reading_only}
use Rattle.built.specs.Built.{built}
use Rattle.built.proofs.Targets.{list_targets, closing}
use Rattle.built.proofs.Whole.{built_sound, built_parts}
use Rattle.laws.specs.Passed.{CanStep}
use Rattle.laws.proofs.Answers.{step_state}
use Rattle.fair.proofs.Taken.{step_taken}
use Rattle.language.specs.Language.{Program, Moves, parallel_rule}
use Rattle.language.specs.Rests.{stands_for}
use Rattle.language.specs.Claims.{Standing, programs}
use Rattle.language.proofs.Begun.{init_whole}
use Rattle.language.proofs.Meant.{stop_ends, body_runs, ready_enabled, station_moves, step_moves, sound_standing}
use Rattle.demands.specs.Written.{StartThere, Allowed, StepIs, AsWritten}
use Rattle.demands.proofs.Order.{start_order}
use Rattle.demands.proofs.Computed.{starting, computes}

active_within : {i : ℕ} {Rs Ss : List Program} {σ τ : List ℕ} → Moves i Rs σ Ss τ → i < length Rs
active_within (parallel_rule l d) = l

module _ (file : List ℕ) (bytes : (i : ℕ) → get_or file i 0 < 256) (accepted : Accepted file) where
  start_there : StartThere ruled file
  start_there b resets lent count within room kept_room =
      let n : stations (built file) ≡ length (stations_of file) = (built_parts file bytes accepted).stations_are in
      let right = each_all _ (length resets) (λ j l. le-leb (get_or resets j 0) b (within j (omega arith))) in
      start_order (built file) b resets lent
      ∙ rw (
        built_sound file bytes accepted,
        n,
        eq-eqb (length resets) (length (stations_of file)) count,
        right,
        le-ltb (length lent.log) (2 * length (stations_of file)) room,
        le-ltb (length lent.kept) (kept_length * max_kept) kept_room,
      )

  module _ (s : State) (lent : Lent) (p : Pick) (can : CanStep (built file) s lent) where
    standing : Standing file s
    standing = sound_standing file bytes accepted s can.of_state

    allowed_taken : (Ss : List Program) (τ : List ℕ) → Allowed file s p Ss τ
        → ((step (built file) s lent p).number ≡ 0)
        × (Ss ≡ programs file (step (built file) s lent p).state) × (τ ≡ (step (built file) s lent p).state.vars)
    allowed_taken Ss τ h =
        let l : p.station < s.n = omega (arith, active_within h.moves, length_values (λ j. stands_for file j (position s j)) s.n) in
        let d = (step_moves file bytes accepted s standing p l Ss τ).0 h.moves in
        let e = (step_taken (built file) s lent p).1 (can, record { station = l; enabled = d.0; lowest = λ k m r. h.lowest k m ((ready_enabled file bytes accepted s standing k m).0 r) }, h.reset) in
        let t = step_state (built file) s lent p e in
        (e, d.1 ∙ ap (λ (u : State). programs file u) (sym t), d.2 ∙ ap (λ (u : State). u.vars) (sym t))

    taken_allowed : (step (built file) s lent p).number ≡ 0
        → Allowed file s p (programs file (step (built file) s lent p).state) (step (built file) s lent p).state.vars
    taken_allowed e =
        let t = step_state (built file) s lent p e in
        let (c, chosen, r) = (step_taken (built file) s lent p).0 e in
        record {
          moves = (step_moves file bytes accepted s standing p chosen.station _ _).1
              (chosen.enabled, ap (λ (u : State). programs file u) t, ap (λ (u : State). u.vars) t);
          lowest = λ k m on. chosen.lowest k m ((ready_enabled file bytes accepted s standing k m).1 on);
          reset = r;
        }

    step_is : StepIs ruled file s lent p
    step_is =
        record {
          exactly_when = (λ e. (_, _, taken_allowed e), λ h. (allowed_taken h.0 h.1 h.2).0);
          is_it = λ Ss τ h. let t = allowed_taken Ss τ h in (t.1, t.2);
        }

  pub as_written : AsWritten ruled file
  as_written =
      record {
        reads = reading_is file accepted;
        one_reading = reading_only file;
        laid = record { targets = list_targets (initial_part file) (stations_of file); closing = closing };
        sound = built_sound file bytes accepted;
        start_there = start_there;
        file_starts = starting file bytes accepted;
        stop_ends = stop_ends file bytes accepted;
        init_whole = init_whole file bytes accepted;
        body_runs = body_runs file bytes accepted;
        sound_standing = sound_standing file bytes accepted;
        ready_enabled = ready_enabled file bytes accepted;
        station_moves = station_moves file bytes accepted;
        step_is = step_is;
        computes = computes file bytes accepted;
      }
