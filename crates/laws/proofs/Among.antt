-- One of some kinds, or none of them, as a `match` on a kind tells it: key by key, or by a run of them. Assumes nothing.
use mathlib.Core.Path.{◌≡◌, refl, sym, ap, ◌∙◌}
use mathlib.Core.Bool.{Bool, true, false}
use mathlib.Core.List.{List, [], ◌∷◌}
use mathlib.Core.Logic.{inl, inr}
use Prim.Native.Nat.{ℕ, ◌+◌, ◌-◌, ◌≤◌, ◌<◌}
use native.Mathlib.Omega.{arith}
use lib.ListN.{replicate, get_or-replicate}
use lib.Dec.{eqb}
use types.Run.{OneOf}
use borrow.Author.Tests.{eq-eqb, ne_eqb}
use Rattle.rules.specs.Words.{among, values}
use Rattle.laws.proofs.Choice.{by_test}
use Rattle.laws.proofs.Places.{get_or_values}

pub among_yes : (kind : ℕ) (kinds : List ℕ) → OneOf kinds kind → among kind kinds ≡ true
among_yes kind [] o = absurd o
among_yes kind (k ∷ []) o = rw (eq-eqb kind k o)
among_yes kind (k ∷ j ∷ kinds) (inl e) = rw (eq-eqb kind k e)
among_yes kind (k ∷ j ∷ kinds) (inr o) =
    by_test (eqb kind k) (λ e. rw e) (λ e. rw e (among_yes kind (j ∷ kinds) o))

pub among_no : (kind : ℕ) (kinds : List ℕ) → (OneOf kinds kind → ⊥) → among kind kinds ≡ false
among_no kind [] o = refl
among_no kind (k ∷ []) o = rw (ne_eqb kind k o)
among_no kind (k ∷ j ∷ kinds) o =
    rw (ne_eqb kind k (λ e. o (inl e))) (among_no kind (j ∷ kinds) (λ e. o (inr e)))

-- the answer is the same all along a run of kinds
pub in_run :
    (xs : List ℕ) (b : Bool) (lo n k : ℕ) →
    values (λ i. among (lo + i) xs) n ≡ replicate n b → lo ≤ k → k < lo + n → b ≡ among k xs
in_run xs b lo n k e h l =
    let i = k - lo in
    let there : lo + i ≡ k = omega arith in
    sym (get_or-replicate n i b b (omega arith))
    ∙ rw e at (get_or_values (λ j. among (lo + j) xs) n i b (omega arith))
    ∙ ap (λ (m : ℕ). among m xs) there
