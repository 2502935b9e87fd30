-- `moves::initial_run` meets its contract. The loop's invariant: the next record has a place, and what is left to run from it on is the
-- whole run. Assumes nothing.
use mathlib.Core.Path.{◌≡◌}
use Prim.Native.Nat.{◌+◌, ◌-◌, ◌<◌, ◌^◌}
use Rattle.rules.specs.Start.{initial_run}
use Rattle.moves.proofs.initial_run.Given as goal

abbrev pub invariant-loop-i : goal.invariant-loop-i
invariant-loop-i l =
    (l.from + l.i < 2 ^ 64) × (initial_run l.list (l.from + l.i) (l.count - l.i) l.vars ≡ initial_run l.list l.from l.count l.initial.vars)
