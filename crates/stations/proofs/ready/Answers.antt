-- `stations::ready` meets its contract. Assumes nothing.
use Prim.Native.Nat.{min}
use mathlib.Core.Path.{◌≡◌, refl, ap, ◌∙◌}
use mathlib.Core.Bool.{false}
use native.Mathlib.Omega.{arith}
use Rattle.rules.specs.Words.{changed}
use Rattle.rules.specs.Names.{max_stations}
use Rattle.rules.specs.Ready.{says_ready}
use Rattle.laws.proofs.Changed.{changed_turn}
use Rattle.stations.proofs.ready.Goals as goal

pub loop-j-init : goal.loop-j-init
unfolding changed
loop-j-init c = refl

pub loop-j-preserved : goal.loop-j-preserved
loop-j-preserved c =
    changed_turn _ _ _ _ _ false c.loop-j.invariant (c.is_ready.ensures ∙ ap says_ready (rw c.at-e.ensures at c.at.ensures))

pub returns : goal.returns
returns c =
    let e : c.loop-j.j ≡ min c.args.n max_stations = omega arith in
    rw e at c.loop-j.invariant
