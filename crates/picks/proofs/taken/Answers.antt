-- `picks::taken` meets its contract: only (255, 0) is an undo. Assumes nothing.
use Rattle.rules.specs.Trace.{taken_pick}
use Rattle.rules.specs.Names.{undo_station}
use lib.Dec.{eqb}
use mathlib.Core.Bool.{true, false, ◌&&◌}
use mathlib.Core.Path.{◌≡◌, sym, ◌∙◌}
use Rattle.picks.proofs.taken.Goals as goal

pub returns-then-eq : goal.returns-then-eq
unfolding taken_pick
returns-then-eq c =
    let p = c.args.pick in
    let yes : (eqb p.station undo_station && eqb p.reset 0) ≡ true = sym c.eq.ensures ∙ c.if-eq.true in
    rw (yes, ← c.undo.ensures)

pub returns : goal.returns
unfolding taken_pick
returns c =
    let p = c.args.pick in
    let no : (eqb p.station undo_station && eqb p.reset 0) ≡ false = sym c.eq.ensures ∙ c.if-eq.false in
    rw no c.step.ensures
