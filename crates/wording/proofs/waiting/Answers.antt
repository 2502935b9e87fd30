-- `wording::waiting` meets its contract, by whether one variable is named or two. Assumes nothing.
use Rattle.text.specs.View.{max_line, text_of}
use Rattle.text.proofs.Texts.{put_after, put_four}
use Rattle.rules.specs.Trace.{decimal}
use Rattle.reason.specs.View.{as_why}
use Rattle.wording.specs.Wording.{ascii, waits_for_one, waits_for_two}
use Rattle.wording.proofs.Lengths.{length_one, length_two}
use mathlib.Core.List.{◌++◌}
use mathlib.Core.Path.{◌≡◌}
use Prim.Native.Nat.{◌≤◌, ◌<◌}
use native.Mathlib.Omega.{arith}
use lib.ListN.{length, take}
use borrow.Author.Tests.{eq-eqb, ne_eqb}
use Rattle.wording.proofs.waiting.Goals as goal
use Rattle.wording.proofs.waiting.Goals.{After-shown-one}

-- the record and the first variable are said
one : (c : After-shown-one)
    → let a = c.args in
    let said = waits_for_one (as_why a.why) in
    (text_of c.shown-one.result ≡ take max_line (text_of a.first ++ said)) × (length said ≤ 42)
unfolding waits_for_one ascii
one c =
    let a = c.args in
    let w = as_why a.why in
    let half : a.why.place < 65536 = omega arith in (
      put_four max_line (text_of a.first) (ascii " waits at record ") (decimal w.place) (ascii ": ") _
          c.words.ensures
          c.decimal.ensures
          c.words-at.ensures
          c.shown-one.ensures.0,
      length_one w half c.shown-one.ensures.1,
    )

pub returns-then-why-eq1 : goal.returns-then-why-eq1
returns-then-why-eq1 c =
    let said = one (goal.at.returns-then-why-eq1 c).After-shown-one in
    rw (eq-eqb _ 1 c.if-why-eq1.true) (said.0, omega (arith, said.1))

pub returns : goal.returns
unfolding waits_for_two ascii
returns c =
    let a = c.args in
    let w = as_why a.why in
    let said = one (goal.at.returns c).After-shown-one in
    let room = text_of a.first in
    let comma = put_after max_line room (waits_for_one w) (ascii ", ") said.0 c.words-2.ensures in
    rw (ne_eqb _ 1 c.if-why-eq1.false) (
      put_after max_line room (waits_for_one w ++ ascii ", ") _ comma c.shown.ensures.0,
      length_two w said.1 c.shown.ensures.1,
    )
