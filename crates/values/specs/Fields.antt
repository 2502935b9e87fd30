-- A record of which a SET and a condition see all that they look at: op, a, b and k. This is a definition.
use Rattle.std.specs.Prelude.{ℕ}
use Rattle.rules.specs.Records.{Record}

abbrev pub fields : ℕ → ℕ → ℕ → ℕ → Record
fields op a b k = record { kind = 0; a = a; b = b; op = op; k = k }
