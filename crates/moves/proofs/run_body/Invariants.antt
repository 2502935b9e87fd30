-- `moves::run_body` meets its contract. The loop's invariant: what is left to run from here is the whole body. Assumes nothing.
use mathlib.Core.Path.{◌≡◌}
use Prim.Native.Nat.{◌-◌}
use Rattle.rules.specs.Records.{list_count}
use Rattle.rules.specs.Move.{body_run}
use Rattle.laws.specs.Narrow.{narrow}
use Rattle.moves.proofs.run_body.Given as goal

abbrev pub invariant-loop : goal.invariant-loop
invariant-loop l = body_run (narrow l.list) (l.end - l.counter) l.place l.vars ≡ body_run (narrow l.list) (list_count l.list) l.from l.initial.vars
