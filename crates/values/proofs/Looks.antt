-- A SET and a condition look at op, a, b and k alone. Assumes nothing.
use Rattle.std.proofs.Common.{◌≡◌, ℕ, List, refl}
use Rattle.rules.specs.Records.{Record}
use Rattle.rules.specs.Values.{set_value, assigned, holds}
use Rattle.values.specs.Fields.{fields}

pub assigned_looks : (vars : List ℕ) (r : Record) → assigned vars (fields r.op r.a r.b r.k) ≡ assigned vars r
unfolding set_value
assigned_looks vars r = refl

pub holds_looks : (vars : List ℕ) (r : Record) → holds vars (fields r.op 0 r.b r.k) ≡ holds vars r
unfolding holds
holds_looks vars r = refl
