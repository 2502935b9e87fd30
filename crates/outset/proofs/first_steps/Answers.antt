-- `outset::first_steps` meets its contract. The loop's invariant: the places passed are filled. Assumes nothing.
use Prim.Native.Nat.{min}
use mathlib.Core.Path.{◌≡◌, ap}
use native.Mathlib.Omega.{arith}
use Rattle.rules.specs.Names.{max_stations}
use Rattle.rules.specs.Records.{ListRecord, list_record_at}
use Rattle.laws.proofs.Filled.{filled_none, filled_more}
use Rattle.outset.proofs.first_steps.Goals as goal

pub loop-j-init : goal.loop-j-init
loop-j-init c = filled_none _ 0 max_stations

pub loop-j-preserved : goal.loop-j-preserved
loop-j-preserved c =
    rw (c.loop-j.invariant, ap (λ (e : ListRecord). e.t1) c.at.ensures)
    (filled_more (λ k. (list_record_at c.args.list.now k).t1) 0 max_stations c.loop-j.j (omega (arith, c.min-j-end.ensures)))

pub returns : goal.returns
returns c =
    let e : c.loop-j.j ≡ min c.args.n max_stations = omega (arith, c.min-j-end.ensures) in
    rw e at c.loop-j.invariant
