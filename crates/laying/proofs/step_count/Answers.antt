-- `laying::step_count` meets its contract: the chain goes over the whole records, and keeps those whose kind is a step.
-- Assumes nothing.
use Rattle.std.proofs.Common.{ℕ, Bool, ◌∙◌, ◌+◌, [], ◌∷◌, slice_index_or}
use borrow.Author.Rules.{rules}
use Rattle.std.specs.Prelude.{cond}
use Rattle.rules.specs.Words.{among}
use Rattle.rules.specs.Names.{SKIP, SET, IF, WHILE, AWAIT}
use Rattle.laying.specs.Laid.{step_count}
use Rattle.laying.proofs.Chunks.{tally_chunks}
use Rattle.laying.proofs.step_count.Goals as goal

pub returns : goal.returns
unfolding step_count
returns c =
    let counted = c.count.ensures.runs in
    let kept = c.filter.ensures.runs counted.0 counted.0.seen counted.1 in
    let step : ℕ → Bool = λ k. among k (SKIP ∷ SET ∷ IF ∷ WHILE ∷ AWAIT ∷ []) in
    counted.3
    ∙ kept.2.5 (λ n x. n + cond (step (slice_index_or x.now 0 0)) 1 0) (λ x b f' n called. search rules)
    ∙ tally_chunks kept.0 c.args.file.now step _ _ (kept.2.0 ∙ counted.2) (search rules) (search rules) (c.chunks_exact.ensures.runs kept.0 kept.0.seen)
