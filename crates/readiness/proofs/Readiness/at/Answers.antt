-- `readiness::Readiness::at` meets its contract: the tests that led to each answer are the rules'. Assumes nothing.
use mathlib.Core.Path.{◌≡◌}
use mathlib.Core.Bool.{false, ◌&&◌, not}
use lib.Dec.{eqb}
use borrow.Author.Tests.{eq-eqb, ne_eqb}
use Rattle.rules.specs.Names.{AWAIT, STOP}
use Rattle.rules.specs.Values.{holds}
use Rattle.rules.specs.Ready.{readiness_at}
use Rattle.record.specs.View.{as_record}
use Rattle.values.proofs.Looks.{holds_looks}
use Rattle.readiness.proofs.Readiness.at.Goals as goal
use Rattle.readiness.proofs.Readiness.at.Goals.{Joined-else-kind-eq-AWAIT}
use Rattle.readiness.proofs.Readiness.at.Goals.{else-kind-eq-AWAIT-via-then-kind-eq-AWAIT+else-not-holds, else-kind-eq-AWAIT-via-else-kind-eq-AWAIT}

pub returns-then-kind-eq-STOP : goal.returns-then-kind-eq-STOP
unfolding readiness_at
returns-then-kind-eq-STOP c = rw (eq-eqb _ STOP c.if-kind-eq-STOP.true)

pub returns-then-not-holds : goal.returns-then-not-holds
unfolding readiness_at
returns-then-not-holds c =
    let a = c.args in
    rw (
      ne_eqb _ STOP c.if-kind-eq-STOP.false,
      eq-eqb _ AWAIT c.if-kind-eq-AWAIT.true,
      ← holds_looks a.vars.now (as_record a.e.own),
      ← c.holds.ensures,
      c.if-not-holds.true,
    )

-- the condition holds, or the record has none to wait for
on : (c : Joined-else-kind-eq-AWAIT) → let a = c.args in (eqb a.e.own.kind AWAIT && not (holds a.vars.now (as_record a.e.own))) ≡ false
on c =
    let a = c.args in
    elim c.else-kind-eq-AWAIT.branch [
      | else-kind-eq-AWAIT-via-then-kind-eq-AWAIT+else-not-holds w ↦
          rw (eq-eqb _ AWAIT w.if-kind-eq-AWAIT.true, ← holds_looks a.vars.now (as_record a.e.own), ← w.holds.ensures, w.if-not-holds.false)
      | else-kind-eq-AWAIT-via-else-kind-eq-AWAIT w ↦ rw (ne_eqb _ AWAIT w.if-kind-eq-AWAIT.false)
    ]

pub returns : goal.returns
unfolding readiness_at
returns c = rw (ne_eqb _ STOP c.if-kind-eq-STOP.false, on (goal.at.returns c).Joined-else-kind-eq-AWAIT)
