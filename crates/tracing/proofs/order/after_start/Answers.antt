-- `tracing::order::after_start` meets its contract. Assumes nothing.
use mathlib.Core.Path.{sym, ◌∙◌}
use Rattle.tracing.proofs.order.after_start.Goals as goal

pub returns-then-wrong : goal.returns-then-wrong
returns-then-wrong c = rw (sym c.wrong.ensures ∙ c.if-wrong.true, c.number.ensures)

pub returns : goal.returns
returns c = rw (sym c.wrong.ensures ∙ c.if-wrong.false)
