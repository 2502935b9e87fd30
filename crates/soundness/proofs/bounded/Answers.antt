-- `soundness::bounded` meets its contract. Assumes nothing.
use Rattle.std.proofs.Common.{refl, rules}
use Rattle.rules.specs.State.{priority_in, count_in, in_bound}
use Rattle.chains.proofs.All.{each_from_below}
use Rattle.soundness.proofs.bounded.Goals as goal

pub returns : goal.returns
returns c =
    let s = c.args.state.now in
    each_from_below _ _ _ c.all.result (λ j. in_bound s.b (priority_in s.priorities j) (count_in s.counts j)) s.n refl c.all.ensures.ran
    (λ x b q k. search rules)
