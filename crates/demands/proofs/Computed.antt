-- The standing steps of any history on a built list are a computation. By induction on how they were made. Assumes nothing.
use mathlib.Core.Path.{◌≡◌}
use mathlib.Core.List.{List}
use mathlib.Core.Option.{some}
use Prim.Native.Nat.{ℕ, ◌<◌}
use lib.ListN.{get_or}
use Rattle.rules.specs.State.{State}
use Rattle.rules.specs.Lent.{Lent}
use Rattle.rules.specs.Start.{started, start}
use Rattle.reading.specs.Accepted.{Accepted}
use Rattle.built.specs.Built.{built}
use Rattle.fair.proofs.Begun.{start_priority}
use Rattle.fair.proofs.Relation.{step_fair}
use Rattle.language.proofs.Begun.{start_whole}
use Rattle.language.proofs.Meant.{ready_enabled, sound_standing, taken_moves}
use Rattle.rules.specs.Calls.{ruled}
use Rattle.rules.specs.History.{Call, Steps, top, history}
use Rattle.history.specs.Back.{Made, by_start, by_step}
use Rattle.laws.proofs.Answers.{start_can, start_state}
use Rattle.history.proofs.Stack.{stack_facts}
use Rattle.history.proofs.Back.{undo_below}
use Rattle.demands.specs.Computation.{Starts, Computation}

module _ (file : List ℕ) (bytes : (i : ℕ) → get_or file i 0 < 256) (accepted : Accepted file) where
  pub starting : (b : ℕ) (resets : List ℕ) (lent : Lent) → (start (built file) b resets lent).number ≡ 0 → Starts file resets (start (built file) b resets lent).state
  unfolding started
  starting b resets lent e =
      let t = start_can (built file) b resets lent e in
      let w = start_whole file bytes accepted b resets in
      rw (start_state (built file) b resets lent e)
      (record {
        initial = w.1;
        whole = w.0;
        resets_are = λ j h. (start_priority (built file) b resets j, t.within j h);
      })

  pub computed : {steps : Steps} → Made ruled (built file) steps → Computation file steps
  computed (by_start b resets lent e) = starting b resets lent e
  computed (by_step {steps = steps} p lent m e) =
      let h = stack_facts (built file) m in
      let f = step_fair (built file) (top steps) lent p h.held e in (
        computed m,
        record {
          moves = taken_moves file bytes accepted (top steps) lent p e;
          enabled = ready_enabled file bytes accepted (top steps) (sound_standing file bytes accepted (top steps) h.sound);
          checked = f.0;
          updated = f.1;
        },
      )

  pub computes : (s : State) (lent : Lent) (calls : List Call) (steps : Steps) → (history ruled (built file) s lent calls).standing ≡ some steps
      → Computation file steps
  computes s lent calls steps e = computed (undo_below (built file) s lent calls steps e).made
