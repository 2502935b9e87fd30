-- `layout::Laying::switch` meets its contract: where the innermost part's second branch starts is set, and the other number stays.
-- Assumes nothing.
use Rattle.layout.specs.Layout.{switched}
use Rattle.layout.proofs.Parts.{after_kept, second_set}
use Rattle.layout.proofs.Laying.switch.Goals as goal

pub returns-then-self-lt-PARTS : goal.returns-then-self-lt-PARTS
unfolding switched
returns-then-self-lt-PARTS c = rw (after_kept, second_set, c.coming-next.ensures)
