-- `explaining::of_waiting` meets its contract: by the op one variable is named, or two. Assumes nothing.
use mathlib.Core.Path.{ap}
use native.Mathlib.Omega.{arith}
use borrow.Author.Tests.{lt-ltb, le-ltb}
use Rattle.rules.specs.Why.{because_waiting, because_waiting_two, waits_for}
use Rattle.explaining.proofs.of_waiting.Goals as goal

pub returns-then-own-lt4 : goal.returns-then-own-lt4
unfolding waits_for
returns-then-own-lt4 c =
    let place = c.args.place in
    rw (← c.at.ensures, lt-ltb c.at.result.own.op 4 c.if-own-lt4.true)
    (ap (because_waiting place) c.of-first.ensures)

pub overflow_cast-own : goal.overflow_cast-own
overflow_cast-own c =
    let small = rw (← c.at.ensures) at c.requires in
    record { fits = omega (arith, small c.if-own-lt4.false) }

pub returns : goal.returns
unfolding waits_for
returns c =
    let place = c.args.place in
    rw (← c.at.ensures, le-ltb c.at.result.own.op 4 c.if-own-lt4.false)
    (λ i. because_waiting_two place (c.of-first.ensures i) (c.of.ensures i))
