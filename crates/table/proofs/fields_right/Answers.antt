-- `table::fields_right` meets its contract: each field is tested by its own rule, and outside the table the rules refuse, as the code does.
-- Assumes nothing.
use Rattle.rules.specs.Fields.{fields_right}
use Rattle.record.specs.View.{as_record}
use Rattle.table.proofs.Outside.{kind_outside, op_outside}
use Rattle.table.proofs.fields_right.Goals as goal
use Rattle.table.proofs.fields_right.Goals.{else-own-lt11-via-then-own-lt11+else-own-lt8, else-own-lt11-via-else-own-lt11}

pub returns-then-own-lt8 : goal.returns-then-own-lt8
unfolding fields_right
returns-then-own-lt8 c =
    rw (← c.rules_of-rules.ensures, c.obeyed.ensures, c.obeyed-then-own-lt8.ensures, c.obeyed-then-own-lt8-2.ensures, c.obeyed-then-own-lt8-3.ensures)

pub returns : goal.returns
returns c =
    elim c.else-own-lt11.branch [
      | else-own-lt11-via-then-own-lt11+else-own-lt8 w ↦ op_outside (as_record c.args.own) w.if-own-lt8.false
      | else-own-lt11-via-else-own-lt11 w ↦ kind_outside (as_record c.args.own) w.if-own-lt11.false
    ]
