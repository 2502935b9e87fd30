-- `charging::lower` meets its contract. Assumes nothing.
use mathlib.Core.Path.{◌≡◌, refl, ◌∙◌}
use native.Mathlib.Omega.{arith}
use mir.Syntax.{w16}
use mir.Val.{SFits}
use mir.ValLaws.{to_z-of_z}
use lib.IntN.{ℤ, pos}
use lib.ListN.{get_or}
use borrow.Author.Rules.{rules}
use Rattle.rules.specs.Words.{changed}
use Rattle.rules.specs.Names.{max_stations}
use Rattle.laws.proofs.Changed.{changed_turn}
use Rattle.charging.proofs.Held.{lowers}
use Rattle.charging.proofs.lower.Goals as goal

pub loop-j-init : goal.loop-j-init
unfolding changed
loop-j-init c = refl

pub loop-j-preserved : goal.loop-j-preserved
loop-j-preserved c =
    let p : ℤ = get_or c.loop-j.priorities c.loop-j.j (pos 0) in
    let fits : SFits w16 p = search rules in
    changed_turn _ _ _ _ _ (pos 0) c.loop-j.invariant
    (to_z-of_z w16 c.saturating_sub.result (record { sfits = c.saturating_sub.type_inv })
    ∙ rw (to_z-of_z w16 p fits, to_z-of_z w16 c.from.result (record { sfits = c.from.type_inv }), c.from.ensures) at c.saturating_sub.ensures
    ∙ lowers _ p fits)

pub returns : goal.returns
returns c =
    let e : c.loop-j.j ≡ max_stations = omega arith in
    rw e at c.loop-j.invariant
