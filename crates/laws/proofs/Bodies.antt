-- A body run from a place on, one record at a time. Assumes nothing.
use mathlib.Core.Path.{◌≡◌, refl}
use mathlib.Core.List.{List}
use Prim.Native.Nat.{ℕ, zero, suc}
use borrow.Author.Tests.{ne_eqb}
use Rattle.rules.specs.Records.{list_record_at}
use Rattle.rules.specs.Move.{vars_after, target_after, body_run}

-- target 0 leaves a body, however many records may still be run
pub body_leaves : (list : List ℕ) (left : ℕ) (vars : List ℕ) → body_run list left 0 vars ≡ vars
unfolding body_run
body_leaves list zero vars = refl
body_leaves list (suc left) vars = refl

-- at any other place its record is run
pub body_goes :
    (list : List ℕ) (left place : ℕ) (vars : List ℕ) → (place ≡ 0 → ⊥) →
    body_run list (suc left) place vars
    ≡ body_run list left (target_after vars (list_record_at list place)) (vars_after vars (list_record_at list place).own)
unfolding body_run
body_goes list left place vars n = rw (ne_eqb place 0 n, body_run)
