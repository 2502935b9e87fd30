-- `wording::said` meets its contract, by the number. Assumes nothing.
use Rattle.text.specs.View.{max_line, text_of}
use Rattle.text.proofs.Texts.{put_after}
use Rattle.text.proofs.Digits.{length_decimal}
use Rattle.rules.specs.Names.{NOT_READY, TURN, ENDED}
use Rattle.rules.specs.Trace.{decimal}
use Rattle.wording.specs.Wording.{ascii, waits_for_one, waits_for_two, said_of}
use Prim.Native.Nat.{◌<◌}
use native.Mathlib.Omega.{arith}
use lib.ListN.{length-append}
use borrow.Author.Tests.{ne_eqb}
use Rattle.wording.proofs.said.Goals as goal
use Rattle.wording.proofs.said.Goals.{Start}

pub returns-in-0 : goal.returns-in-0
unfolding said_of ascii
returns-in-0 c = rw c.in-0.is (c.words.ensures, omega arith)

-- the two numbers have three digits at most
few_ahead : (c : Start) → c.args.why.ahead < 1000
few_ahead c = omega arith

few_number : (c : Start) → c.args.why.number < 1000
few_number c = omega arith

pub returns-in-12 : goal.returns-in-12
unfolding said_of ascii
returns-in-12 c =
    let a = c.args in
    let ahead = decimal a.why.ahead in
    let few = length_decimal 2 a.why.ahead (few_ahead (goal.at.returns-in-12 c).Start) in
    rw c.in-12.is (
      put_after max_line (text_of a.first) (ascii " is behind station ") ahead c.words-in-12.ensures c.decimal.ensures,
      simp length-append (omega arith),
    )

pub returns-in-11 : goal.returns-in-11
unfolding said_of waits_for_one waits_for_two
returns-in-11 c = rw c.in-11.is c.waiting.ensures

pub returns-in-16 : goal.returns-in-16
unfolding said_of ascii
returns-in-16 c = rw c.in-16.is (c.words-in-16.ensures, omega arith)

pub returns-in_default : goal.returns-in_default
unfolding said_of ascii
returns-in_default c =
    let a = c.args in
    let rest = c.in_default.in_default-own.rest in
    let number = decimal a.why.number in
    let few = length_decimal 2 a.why.number (few_number (goal.at.returns-in_default c).Start) in
    rw (ne_eqb _ 0 rest.0.0.0.1, ne_eqb _ TURN rest.0.0.1, ne_eqb _ NOT_READY rest.0.1, ne_eqb _ ENDED rest.1) (
      put_after max_line (text_of a.first) (ascii " is refused with ") number c.words-in_default.ensures c.decimal-in_default.ensures,
      simp length-append (omega arith),
    )
