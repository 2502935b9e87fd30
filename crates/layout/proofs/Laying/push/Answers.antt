-- `layout::Laying::push` meets its contract: where a part opens, what comes after its statement is set, and the other number stays.
-- Assumes nothing.
use borrow.Author.Tests.{lt-ltb}
use Rattle.layout.specs.Layout.{pushed}
use Rattle.layout.proofs.Parts.{after_set, second_kept}
use Rattle.layout.proofs.Laying.push.Goals as goal

pub returns-then-self-lt-MAX_DEPTH : goal.returns-then-self-lt-MAX_DEPTH
unfolding pushed
returns-then-self-lt-MAX_DEPTH c = rw (lt-ltb _ _ c.if-self-lt-MAX_DEPTH.true, after_set, second_kept)
