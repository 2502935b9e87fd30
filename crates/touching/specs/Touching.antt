-- What one record reads by its b and its k, and a variable more among those that are touched. These are definitions.
use Rattle.std.specs.Prelude.{ℕ, Bool, false, ◌&&◌, ◌||◌, List, [], ◌∷◌, eqb, leb, get_or, if◌then◌else◌}
use Rattle.rules.specs.Words.{among, values}
use Rattle.rules.specs.Names.{SET, IF, WHILE, AWAIT, variables}
use Rattle.rules.specs.Records.{Record}

-- whether a record reads the variable b, and the variable k
abbrev pub reads_b : Record → Bool
reads_b r =
    if eqb r.kind SET then among r.op (1 ∷ 2 ∷ 3 ∷ 4 ∷ 5 ∷ [])
    else among r.kind (IF ∷ WHILE ∷ AWAIT ∷ [])

abbrev pub reads_k : Record → Bool
reads_k r =
    if eqb r.kind SET then among r.op (4 ∷ 5 ∷ [])
    else among r.kind (IF ∷ WHILE ∷ AWAIT ∷ []) && leb 4 r.op

-- what was touched, and what passes the test too
abbrev pub added : List Bool → (ℕ → Bool) → List Bool
added before test = values (λ v. get_or before v false || test v) variables
