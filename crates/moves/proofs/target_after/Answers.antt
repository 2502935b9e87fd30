-- `moves::target_after` meets its contract: IF and WHILE are the kinds that test.
-- Assumes nothing.
use mathlib.Core.Path.{◌≡◌, sym, ◌∙◌}
use mathlib.Core.Bool.{true, or-true}
use mathlib.Core.List.{[], ◌∷◌}
use mathlib.Core.Logic.{◌⊎◌, inl, inr, ⊎_elim}
use Prim.Native.Nat.{ℕ}
use borrow.Author.Tests.{eq-eqb, ne_eqb}
use Rattle.rules.specs.Words.{among}
use Rattle.rules.specs.Names.{IF, WHILE}
use Rattle.rules.specs.Values.{holds}
use Rattle.record.specs.View.{as_record}
use Rattle.values.proofs.Looks.{holds_looks}
use Rattle.moves.proofs.target_after.Goals as goal
use Rattle.moves.proofs.target_after.Goals.{After-holds-holds}

-- the kinds that test
tests : {kind : ℕ} → (kind ≡ IF) ⊎ (kind ≡ WHILE) → among kind (IF ∷ WHILE ∷ []) ≡ true
tests {kind} = ⊎_elim (λ e. rw (eq-eqb kind IF e)) (λ e. rw (eq-eqb kind WHILE e, or-true))

-- what the condition of the record says
says : (c : After-holds-holds) → let a = c.args in holds a.vars.now (as_record a.e.own) ≡ c.holds-holds.result
says c =
    let a = c.args in
    sym (c.holds-holds.ensures ∙ holds_looks a.vars.now (as_record a.e.own))

pub returns-then-holds : goal.returns-then-holds
returns-then-holds c = rw (tests c.in-4.is, says (goal.at.returns-then-holds c).After-holds-holds, c.if-holds.true)

pub returns-else-holds : goal.returns-else-holds
returns-else-holds c = rw (tests c.in-4.is, says (goal.at.returns-else-holds c).After-holds-holds, c.if-holds.false)

pub returns-in_default : goal.returns-in_default
returns-in_default c =
    let other = c.in_default.in_default-own.rest.1 in
    rw (ne_eqb _ IF (λ e. other (inl e)), ne_eqb _ WHILE (λ e. other (inr e)))
