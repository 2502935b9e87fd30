-- `touching::added` meets its contract: one variable more, or none where the test fails or no variable has the number.
-- Assumes nothing.
use mathlib.Core.Path.{◌≡◌}
use mathlib.Core.Bool.{◌&&◌, and-false}
use mathlib.Core.Logic.{⊎_elim}
use native.Mathlib.Omega.{arith}
use borrow.Author.Rules.{rules}
use borrow.Author.Tests.{ne_eqb}
use lib.Dec.{eqb}
use lib.ListN.{length}
use Rattle.rules.specs.Names.{variables}
use Rattle.touching.proofs.Variables.{added_none, added_one}
use Rattle.touching.proofs.added.Goals as goal

pub returns-then-place-lt32 : goal.returns-then-place-lt32
returns-then-place-lt32 c =
    let all : length c.args.before ≡ variables = search rules in
    rw c.if-test.true (added_one c.args.before c.args.v all c.if-place-lt32.true)

pub returns-else-test : goal.returns-else-test
returns-else-test c =
    let all : length c.args.before ≡ variables = search rules in
    added_none c.args.before (λ v. c.args.test && eqb c.args.v v) all
    (λ v l. ⊎_elim (λ w. rw (ne_eqb c.args.v v (λ e. omega arith), and-false)) (λ fails. rw fails) c.else-test.either)
