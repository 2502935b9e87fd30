-- Which stations are ready, filled in for those of the list, is which are ready in the rules' words. Assumes nothing.
use Prim.Native.Nat.{ℕ, zero, suc, ◌≤◌}
use mathlib.Core.Path.{◌≡◌, refl, ◌∙◌}
use mathlib.Core.Bool.{Bool, false}
use mathlib.Core.List.{List}
use native.Mathlib.Omega.{arith}
use borrow.Author.Tests.{ltb-true, ltb-false}
use lib.Dec.{ltb}
use lib.ListN.{get_or, replicate, length-replicate}
use Rattle.rules.specs.Words.{changed}
use Rattle.rules.specs.Names.{max_stations}
use Rattle.rules.specs.State.{State, position}
use Rattle.rules.specs.Ready.{says_ready, readiness, ready}
use Rattle.laws.proofs.Choice.{by_test}
use Rattle.laws.proofs.Changed.{changed_at, changed_past}
use Rattle.stations.specs.Places.{readiness_by}

-- none is ready at first
none : (n j : ℕ) → get_or (replicate n false) j false ≡ false
none zero j = refl
none (suc n) zero = refl
none (suc n) (suc j) = none n j

module _ (list : List ℕ) (s : State) {all : List Bool} (few : s.n ≤ max_stations)
    (is : all ≡ changed (λ j was. says_ready (readiness_by list s.vars (position s j))) s.n (replicate max_stations false)) where
  pub ready_known : (j : ℕ) → get_or all j false ≡ ready list s j
  unfolding ready readiness
  ready_known j =
      let eight = length-replicate max_stations false in
      let judged : ℕ → Bool → Bool = λ j was. says_ready (readiness_by list s.vars (position s j)) in
      by_test (ltb j s.n)
      (λ e. let l = ltb-true j s.n e in rw (is, e) (changed_at judged s.n (replicate max_stations false) j false l (omega arith)))
      (λ e. rw (is, e) (changed_past judged s.n (replicate max_stations false) j false (ltb-false j s.n e) ∙ none max_stations j))
