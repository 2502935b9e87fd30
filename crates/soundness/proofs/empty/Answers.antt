-- `soundness::empty` meets its contract. Assumes nothing.
use Rattle.std.proofs.Common.{refl, rules}
use Rattle.rules.specs.Names.{max_stations}
use Rattle.rules.specs.State.{empty_in}
use Rattle.chains.proofs.All.{each_from_range}
use Rattle.soundness.proofs.empty.Goals as goal

pub returns : goal.returns
returns c =
    let s = c.args.state.now in
    each_from_range _ _ _ c.all.result (empty_in s.positions s.priorities s.counts) s.n max_stations refl c.all.ensures.ran (λ x b q k. search rules)
