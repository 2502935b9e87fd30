-- `line::of` meets its contract: the masks are the lights'. Assumes nothing.
use Rattle.rules.specs.Trace.{line}
use borrow.Author.Tests.{le-leb, lt-leb}
use Rattle.line.proofs.of.Goals as goal

pub returns-then-state-gt-MAX_STATIONS : goal.returns-then-state-gt-MAX_STATIONS
returns-then-state-gt-MAX_STATIONS c = rw (c.empty.ensures, lt-leb _ _ c.if-state-gt-MAX_STATIONS.true)

pub returns : goal.returns
unfolding line
returns c =
    rw (le-leb _ _ c.if-state-gt-MAX_STATIONS.false, ← c.lights-lit.ensures) c.spelled.ensures
