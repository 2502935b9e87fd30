-- `soundness::placed` meets its contract. Assumes nothing.
use Rattle.std.proofs.Common.{refl, rules}
use Rattle.rules.specs.List.{is_at}
use Rattle.rules.specs.State.{position_in}
use Rattle.chains.proofs.All.{each_from_below}
use Rattle.soundness.proofs.placed.Goals as goal

pub returns : goal.returns
returns c =
    let s = c.args.state.now in
    each_from_below _ _ _ c.all.result (λ j. is_at c.args.list.now c.args.later 0 j (position_in s.positions j)) s.n refl c.all.ensures.ran
    (λ x b q k. search rules)
