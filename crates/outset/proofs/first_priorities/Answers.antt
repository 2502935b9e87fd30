-- `outset::first_priorities` meets its contract. The loop's invariant: the places passed are filled. Assumes nothing.
use Prim.Native.Nat.{min}
use mathlib.Core.Path.{◌≡◌, ap}
use native.Mathlib.Omega.{arith}
use mir.Syntax.{w16}
use mir.ValLaws.{to_z_pos}
use lib.IntN.{pos}
use Rattle.rules.specs.Names.{max_stations}
use Rattle.rules.specs.Records.{Pick, pick_at}
use Rattle.laws.proofs.Filled.{filled_none, filled_more}
use Rattle.outset.proofs.first_priorities.Goals as goal

pub loop-j-init : goal.loop-j-init
loop-j-init c = filled_none _ (pos 0) max_stations

pub loop-j-preserved : goal.loop-j-preserved
loop-j-preserved c =
    rw (c.loop-j.invariant, to_z_pos w16 c.at.result.reset (omega arith), ap (λ (p : Pick). p.reset) c.at.ensures)
    (filled_more (λ k. pos (pick_at c.args.log.now k).reset) (pos 0) max_stations c.loop-j.j (omega (arith, c.min-j-end.ensures)))

pub returns : goal.returns
returns c =
    let e : c.loop-j.j ≡ min c.args.n max_stations = omega (arith, c.min-j-end.ensures) in
    rw e at c.loop-j.invariant
