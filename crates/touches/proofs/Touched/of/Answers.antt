-- `touches::Touched::of` meets its contract: the record itself, and at an AWAIT that is ready its body too.
-- Assumes nothing.
use mathlib.Core.Path.{◌≡◌, ◌∙◌}
use mathlib.Core.Logic.{⊎_elim}
use mathlib.Core.Bool.{false, ◌&&◌, and-false}
use borrow.Author.Tests.{eq-eqb, ne_eqb}
use lib.Dec.{eqb}
use Rattle.rules.specs.Names.{AWAIT}
use Rattle.laws.proofs.Choice.{both}
use Rattle.record.specs.View.{as_list_record}
use Rattle.touches.proofs.Variables.{touched_itself, touched_await}
use Rattle.touches.proofs.Touched.of.Goals as goal

pub returns-then-ready : goal.returns-then-ready
returns-then-ready c =
    let a = c.args in
    c.with_body.ensures
    ∙ rw c.with_record-itself.ensures
    (touched_await a.list.now (as_list_record a.e) a.ready (both (eq-eqb _ AWAIT c.if-e-eq-AWAIT.true) c.if-ready.true))

pub returns : goal.returns
returns c =
    let a = c.args in
    let shut : (eqb a.e.own.kind AWAIT && a.ready) ≡ false =
    ⊎_elim (λ w. rw (w.1, and-false)) (λ no. rw (ne_eqb _ AWAIT no)) c.else-e-eq-AWAIT.either in
    c.with_record-itself.ensures ∙ touched_itself a.list.now (as_list_record a.e) a.ready shut
