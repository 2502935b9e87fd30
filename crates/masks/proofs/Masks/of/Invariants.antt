-- The loop of `masks::Masks::of`. Its invariant: the masks of the stations from j on are gathered. Assumes nothing.
use mathlib.Core.Path.{◌≡◌}
use Rattle.masks.specs.Masks.{state_of, masks_from}
use Rattle.masks.proofs.Masks.of.Given as goal

abbrev pub invariant-loop-j : goal.invariant-loop-j
invariant-loop-j l = l.masks ≡ masks_from l.list (state_of l.state.vars l.state.positions l.state.priorities l.state.n) l.j
