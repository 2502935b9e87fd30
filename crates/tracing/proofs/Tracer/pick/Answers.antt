-- `tracing::Tracer::pick` meets its contract, by whether there is a pick left and whether it is refused. Assumes nothing.
use Rattle.tracing.specs.Tracing.{pick_piece}
use borrow.Author.Tests.{eq-eqb, ne_eqb, lt-ltb, le-ltb}
use native.Mathlib.Numerals.{add-one}
use Rattle.tracing.proofs.Tracer.pick.Goals as goal

pub returns-then-picks-i : goal.returns-then-picks-i
unfolding pick_piece
returns-then-picks-i c =
    rw (le-ltb _ _ c.if-picks-i.true, c.print_then.ensures, c.end_line.ensures)

pub returns-then-taken-ne0 : goal.returns-then-taken-ne0
unfolding pick_piece
returns-then-taken-ne0 c =
    rw (
      lt-ltb _ _ c.if-picks-i.false,
      ← c.at.ensures,
      ← c.taken-taken.ensures,
      ne_eqb _ _ c.if-taken-ne0.true,
      c.print_then-then-taken-ne0.ensures,
      c.end_line-then-taken-ne0.ensures,
    )

pub returns : goal.returns
unfolding pick_piece
returns c =
    rw (
      lt-ltb _ _ c.if-picks-i.false,
      ← c.at.ensures,
      ← c.taken-taken.ensures,
      eq-eqb _ _ c.if-taken-ne0.false,
      c.print_then-2.ensures,
      c.of.ensures,
      add-one,
    )
