-- `tracing::Tracer::next` meets its contract, by what comes next. Assumes nothing.
use Rattle.tracing.specs.Tracing.{piece}
use Rattle.tracing.proofs.Tracer.next.Goals as goal

pub returns-in-Start : goal.returns-in-Start
unfolding piece
returns-in-Start c =
    rw (
      c.in-Start.is,
      c.print_then.ensures,
      c.of.ensures,
      c.used-own.ensures,
      c.after_start.ensures,
    )

pub returns-in-Pick : goal.returns-in-Pick
unfolding piece
returns-in-Pick c =
    rw (c.in-Pick.is, ← c.used-own.ensures) c.pick.ensures

pub returns-in-End : goal.returns-in-End
unfolding piece
returns-in-End c =
    rw (c.in-End.is, c.print_then-in-End.ensures, c.end_line.ensures)

pub returns-in-Nothing : goal.returns-in-Nothing
unfolding piece
returns-in-Nothing c =
    rw (c.in-Nothing.is, c.print_then-in-Nothing.ensures, c.empty.ensures)
