-- `replaying::replay` meets its contract. The loop's invariant: the records to come, on the state as it is, answer what all of them do on the
-- one given. Assumes nothing.
use Prim.Native.Nat.{◌-◌}
use mathlib.Core.Path.{◌≡◌}
use Rattle.state.specs.View.{as_state}
use Rattle.replaying.specs.Replayed.{replayed}
use Rattle.replaying.proofs.replay.Given as goal

abbrev pub invariant-loop-i : goal.invariant-loop-i
invariant-loop-i l =
    replayed l.list l.log l.first l.count (as_state l.initial.state) ≡ replayed l.list l.log l.i (l.i-end - l.i) (as_state l.state)
