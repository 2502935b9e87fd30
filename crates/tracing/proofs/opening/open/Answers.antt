-- `tracing::opening::open` meets its contract: the build, then the start file's first byte, then the start decide. Assumes nothing.
use Rattle.tracing.specs.Tracing.{opened}
use Rattle.tracing.proofs.Opened.{opened_none, opened_some}
use borrow.Author.Tests.{eq-eqb, ne_eqb}
use native.Mathlib.Omega.{arith}
use Rattle.tracing.proofs.opening.open.Goals as goal

pub returns-then-built-ne0 : goal.returns-then-built-ne0
unfolding opened
returns-then-built-ne0 c =
    rw (← c.build-built.ensures, ne_eqb _ _ c.if-built-ne0.true, c.ending.ensures)

pub returns-in_default : goal.returns-in_default
unfolding opened
returns-in_default c =
    rw (
      ← c.build-built.ensures,
      eq-eqb _ _ c.if-built-ne0.false,
      opened_none _ _ c.args.starts.now _ (omega arith),
      c.ending-in_default.ensures,
      c.number.ensures,
    )

pub shape_of-list-then-started-ne0 : goal.shape_of-list-then-started-ne0
shape_of-list-then-started-ne0 c = c.build-built.auto.list

pub returns-then-started-ne0 : goal.returns-then-started-ne0
unfolding opened
returns-then-started-ne0 c =
    rw (
      ← c.build-built.ensures,
      eq-eqb _ _ c.if-built-ne0.false,
      opened_some _ _ c.args.starts.now _ (λ none. omega arith),
      ← c.used.ensures,
      ← c.start-started.ensures,
      ne_eqb _ _ c.if-started-ne0.true,
      c.ending-then-started-ne0.ensures,
    )

pub returns : goal.returns
unfolding opened
returns c =
    rw (
      ← c.build-built.ensures,
      eq-eqb _ _ c.if-built-ne0.false,
      opened_some _ _ c.args.starts.now _ (λ none. omega arith),
      ← c.used.ensures,
      ← c.start-started.ensures,
      eq-eqb _ _ c.if-started-ne0.false,
    )
