-- `charging::count` meets its contract. Assumes nothing.
use mathlib.Core.Path.{◌≡◌, refl, ◌∙◌}
use native.Mathlib.Omega.{arith}
use borrow.Author.Rules.{rules}
use Rattle.rules.specs.Words.{changed}
use Rattle.rules.specs.Names.{max_stations}
use Rattle.laws.proofs.Changed.{changed_turn}
use Rattle.charging.proofs.Held.{counts_on}
use Rattle.charging.proofs.count.Goals as goal

pub loop-j-init : goal.loop-j-init
unfolding changed
loop-j-init c = refl

pub loop-j-preserved : goal.loop-j-preserved
loop-j-preserved c = changed_turn _ _ _ _ _ 0 c.loop-j.invariant (rw c.from.ensures at c.saturating_add.ensures ∙ counts_on _ _ (search rules))

pub returns : goal.returns
returns c =
    let e : c.loop-j.j ≡ max_stations = omega arith in
    rw e at c.loop-j.invariant
