-- `charging::charge` meets its contract: all are charged and counted as if none were picked, and then the picked one gets its reset and the
-- count 0. Assumes nothing.
use mathlib.Core.Path.{◌∙◌}
use native.Mathlib.Omega.{arith}
use mir.Syntax.{w16}
use mir.ValLaws.{to_z_pos}
use lib.IntN.{pos}
use borrow.Author.Tests.{ne_eqb}
use Rattle.rules.specs.Names.{max_stations}
use Rattle.laws.proofs.Changed.{changed_set, changed_same}
use Rattle.charging.specs.Charge.{unpicked, passed}
use Rattle.charging.proofs.charge.Goals as goal

pub returns-then-picked-lt-MAX_STATIONS : goal.returns-then-picked-lt-MAX_STATIONS
returns-then-picked-lt-MAX_STATIONS c =
    let a = c.args in (
      rw (c.lower.ensures, to_z_pos w16 a.reset (omega arith))
          (changed_set (unpicked a.ready.now) max_stations a.priorities.now a.picked (pos a.reset) (omega arith)),
      rw c.count.ensures (changed_set (passed a.ready.now) max_stations a.counts.now a.picked 0 (omega arith)),
    )

pub returns-else-picked-lt-MAX_STATIONS : goal.returns-else-picked-lt-MAX_STATIONS
returns-else-picked-lt-MAX_STATIONS c =
    let a = c.args in (
      c.lower.ensures ∙ changed_same _ _ max_stations a.priorities.now (pos 0) (λ k l. rw (ne_eqb k a.picked (λ e. omega arith))),
      c.count.ensures ∙ changed_same _ _ max_stations a.counts.now 0 (λ k l. rw (ne_eqb k a.picked (λ e. omega arith))),
    )
