-- `turns::lowest_of` meets its contract. Assumes nothing.
use Rattle.std.proofs.Common.{◌≡◌, refl, false, ℕ, get_or, rules}
use mir.Syntax.{w16}
use mir.ValLaws.{to_z-of_z}
use Rattle.rules.specs.State.{priority_in}
use Rattle.rules.specs.Turn.{yields_to}
use Rattle.chains.proofs.All.{each_from_below}
use Rattle.turns.proofs.lowest_of.Goals as goal

pub returns : goal.returns
returns c =
    let a = c.args in
    each_from_below _ _ _ c.all.result
    (λ j. yields_to (get_or a.all.now j false) (priority_in a.priorities.now a.i) (priority_in a.priorities.now j)) a.n refl c.all.ensures.ran
    (λ x b q k. let same = to_z-of_z w16 c.entry-own.result (record { sfits = c.entry-own.type_inv }) in search (rules, same))
