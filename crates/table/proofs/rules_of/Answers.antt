-- `table::rules_of` meets its contract: antt makes the table anew from the rules, and finds the same entry at every kind and op.
-- Assumes nothing.
use mathlib.Core.Path.{◌≡◌, refl, ap, ◌∙◌}
use mathlib.Core.List.{List, []}
use Prim.Native.Nat.{ℕ}
use native.Mathlib.Omega.{arith}
use lib.ListN.{get_or}
use Rattle.rules.specs.Words.{values}
use Rattle.rules.specs.Fields as fields
use Rattle.rules.specs.Fields.{naught, variable, free, outside, bare_row, rules_of}
use Rattle.laws.proofs.Places.{get_or_values}
use Rattle.table.specs.declared.Rule.{Rule}
use Rattle.table.specs.declared.Rule.TheVariants.{Naught, Variable, Free, Outside}
use Rattle.table.specs.declared.Rules.{Rules}
use Rattle.table.specs.View.{as_rule, as_rules}
use Rattle.table.proofs.rules_of.Goals as goal

-- the code's rules for those of the document
written : fields.Rule → Rule
written naught = Naught
written variable = Variable
written free = Free
written outside = Outside

entry : fields.Rules → Rules
entry rules = record { a = written rules.a; b = written rules.b; op = written rules.op; k = written rules.k }

read : (rule : fields.Rule) → as_rule (written rule) ≡ rule
unfolding written
read naught = refl
read variable = refl
read free = refl
read outside = refl

entry_read : (rules : fields.Rules) → as_rules (entry rules) ≡ rules
unfolding entry
entry_read rules = rw (read rules.a, read rules.b, read rules.op, read rules.k)

-- a row as the rules have it
row : ℕ → List Rules
row kind = values (λ op. entry (rules_of kind op)) 8

pub returns : goal.returns
unfolding values rules_of row entry written
returns c =
    let a = c.args in
    ap (λ (l : List Rules). as_rules (get_or l a.op (entry bare_row))) (get_or_values row 11 a.kind [] (omega arith))
    ∙ ap as_rules (get_or_values (λ op. entry (rules_of a.kind op)) 8 a.op (entry bare_row) (omega arith))
    ∙ entry_read (rules_of a.kind a.op)
