-- The rules of fields in the code, seen as those of the rules. These are definitions.
use Rattle.rules.specs.Fields as fields
use Rattle.table.specs.declared.Rule.{Rule}
use Rattle.table.specs.declared.Rule.TheVariants.{Naught, Variable, Free, Outside}
use Rattle.table.specs.declared.Rules.{Rules}

abbrev pub as_rule : Rule → fields.Rule
as_rule Naught = fields.naught
as_rule Variable = fields.variable
as_rule Free = fields.free
as_rule Outside = fields.outside

abbrev pub as_rules : Rules → fields.Rules
as_rules rules = fields.row (as_rule rules.a) (as_rule rules.b) (as_rule rules.op) (as_rule rules.k)
