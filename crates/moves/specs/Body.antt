-- A body's run, record by record, with no count of them. These are definitions.
use Rattle.std.specs.Prelude.{◌≡◌, List, ℕ}
use Rattle.rules.specs.Records.{list_record_at}
use Rattle.rules.specs.Move.{vars_after, target_after}

-- the body from a place on, begun with some variables, ends with others
pub data BodyEnds (list : List ℕ) : ℕ → List ℕ → List ℕ → Type 0 where
  -- "In a body, target 0 leaves it"
  leaves : {vars : List ℕ} → BodyEnds list 0 vars vars
  -- at any other place a record more is run: SKIP and SET lead to t1, IF to t1 or t2, and SET assigns its variable
  runs :
      {place : ℕ} {vars end : List ℕ} → (place ≡ 0 → ⊥) →
      BodyEnds list (target_after vars (list_record_at list place)) (vars_after vars (list_record_at list place).own) end →
      BodyEnds list place vars end
