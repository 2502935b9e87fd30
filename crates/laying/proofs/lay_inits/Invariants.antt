-- `laying::lay_inits` meets its contract: what is still to be laid into the list, from j stations down, is what was to be laid at
-- first.
-- Assumes nothing.
use mathlib.Core.Path.{◌≡◌}
use Rattle.laying.specs.Laid.{lay_inits}
use Rattle.laying.proofs.lay_inits.Given as goal

abbrev pub invariant-loop-j : goal.invariant-loop-j
invariant-loop-j l = lay_inits l.j l.starts l.p l.list ≡ lay_inits l.stations l.starts l.place l.initial.list
