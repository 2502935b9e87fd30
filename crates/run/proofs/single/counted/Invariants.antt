-- `run::single::counted` meets its contract. The loop's invariant: the state is of a state's lengths and sound, and the steps to come, counted on
-- from those taken, answer what the whole does. Assumes nothing.
use Prim.Native.Nat.{◌-◌, ◌<◌}
use mathlib.Core.Path.{◌≡◌}
use mathlib.Core.Bool.{true}
use Rattle.rules.specs.State.{sound_state}
use Rattle.rules.specs.Run.{steps_from}
use Rattle.fair.specs.Sound.{Held}
use Rattle.state.specs.View.{as_state}
use Rattle.run.proofs.Runs.{counted}
use Rattle.run.proofs.single.counted.Given as goal

abbrev pub invariant-loop-steps : goal.invariant-loop-steps
invariant-loop-steps l =
    record {
      held : Held (as_state l.state);
      small : l.state.b < 256;
      sound : sound_state l.list (as_state l.state) ≡ true;
      to_come : steps_from l.list l.picks 0 l.count (as_state l.initial.state) (record { log = l.initial.log; kept = l.initial.kept })
          ≡ counted l.steps (steps_from l.list l.picks l.steps (l.count - l.steps) (as_state l.state) (record { log = l.log; kept = l.kept }));
    }
