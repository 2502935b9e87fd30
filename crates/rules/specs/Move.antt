-- What a station's move does: SKIP, SET, one test, or an AWAIT with its body. It looks at the variables and the positions alone, and at no
-- priority. These are definitions.
use Rattle.std.specs.Prelude.{ℕ, zero, suc, true, false, List, [], ◌∷◌, eqb, set, if◌then◌else◌}
use Rattle.rules.specs.Words.{among}
use Rattle.rules.specs.Names.{SET, IF, WHILE, AWAIT}
use Rattle.rules.specs.Records.{Record, ListRecord, list_record_at, list_count}
use Rattle.rules.specs.Values.{assigned, holds}
use Rattle.rules.specs.State.{position_in}

-- the variables after SKIP, SET or a test
abbrev pub vars_after : List ℕ → Record → List ℕ
vars_after vars r = if eqb r.kind SET then assigned vars r else vars

-- "IF and WHILE: t1 when true, t2 when false"; SKIP and SET: t1
abbrev pub target_after : List ℕ → ListRecord → ℕ
target_after vars e =
    if among e.own.kind (IF ∷ WHILE ∷ []) then (if holds vars e.own then e.t1 else e.t2)
    else e.t1

-- a body from a place on, "target 0 leaves it"; each of its records leads to a higher one, so that it ends within the list's count
unfoldable pub body_run : List ℕ → ℕ → ℕ → List ℕ → List ℕ
body_run list zero place vars = vars
body_run list (suc count) place vars =
    let e = list_record_at list place in
    elim (eqb place 0) [ true ↦ vars | false ↦ body_run list count (target_after vars e) (vars_after vars e.own) ]

-- "SKIP, SET, one test, and AWAIT with its body are one step each": the variables and the station's position after its next step
unfoldable pub step_vars : List ℕ → List ℕ → ListRecord → List ℕ
step_vars list vars e =
    if eqb e.own.kind AWAIT then body_run list (list_count list) e.t1 vars else vars_after vars e.own

unfoldable pub step_position : List ℕ → ListRecord → ℕ
step_position vars e = if eqb e.own.kind AWAIT then e.t2 else target_after vars e

pub record Moved : Type 0 where
  pub vars : List ℕ
  pub positions : List ℕ

-- the variables and the positions after a station's move
abbrev pub moved : List ℕ → List ℕ → List ℕ → ℕ → Moved
moved list vars positions j =
    let e = list_record_at list (position_in positions j) in
    record { vars = step_vars list vars e; positions = set positions j (step_position vars e) }
