-- On a sound list a body ends, and running it is what its records say: the list's count of records cuts no body short. The theorem
-- stands at the end. Assumes nothing.
use mathlib.Core.Path.{◌≡◌, refl}
use mathlib.Core.Logic.{⊎_elim, ◌↔◌}
use mathlib.Core.Bool.{true}
use mathlib.Core.List.{List, [], ◌∷◌}
use Prim.Native.Nat.{ℕ, zero, suc, ◌+◌, ◌≤◌}
use native.Mathlib.Omega.{arith}
use Rattle.rules.specs.Words.{among}
use Rattle.rules.specs.Names.{IF, WHILE}
use Rattle.rules.specs.Records.{list_record_at, list_count}
use Rattle.rules.specs.List.{inside, sound_list}
use Rattle.rules.specs.Values.{holds}
use Rattle.rules.specs.Move.{vars_after, target_after, body_run}
use Rattle.laws.proofs.Choice.{by_test}
use Rattle.laws.proofs.Sound.{Onward, Inside, inside_means}
use Rattle.moves.specs.Body.{BodyEnds, leaves, runs}
use Rattle.laws.proofs.Bodies.{body_leaves, body_goes}

-- a body has one end
one_end : (list : List ℕ) {place : ℕ} {vars end end' : List ℕ} → BodyEnds list place vars end → BodyEnds list place vars end' → end ≡ end'
one_end list leaves leaves = refl
one_end list leaves (runs n d) = absurd (n refl)
one_end list (runs n d) leaves = absurd (n refl)
one_end list (runs n d) (runs m e) = one_end list d e

-- wherever a record inside leads
target_onward :
    (list : List ℕ) (station place : ℕ) (vars : List ℕ) → Inside list station place →
    Onward list station place (target_after vars (list_record_at list place))
target_onward list station place vars here =
    let e = list_record_at list place in
    by_test (among e.own.kind (IF ∷ WHILE ∷ []))
    (λ d. by_test (holds vars e.own) (λ f. rw (d, f) here.by_t1) (λ f. rw (d, f) here.by_t2))
    (λ d. rw d here.by_t1)

-- at 0 a body has ended; from a record inside it ends, if as many records may be run as the list has from there on
ends_here : (list : List ℕ) (left place : ℕ) (vars : List ℕ) → place ≡ 0 → BodyEnds list place vars (body_run list left place vars)
ends_here list left place vars e = rw (e, body_leaves list left vars) leaves

ends :
    (list : List ℕ) (station : ℕ) → sound_list list ≡ true → (left place : ℕ) (vars : List ℕ) →
    list_count list ≤ left + place → inside list station place ≡ true → BodyEnds list place vars (body_run list left place vars)
ends list station sound zero place vars enough here =
    absurd (let is = inside_means list sound station place here in omega arith)
ends list station sound (suc left) place vars enough here =
    let is = inside_means list sound station place here in
    let e = list_record_at list place in
    let target = target_after vars e in
    let after = vars_after vars e.own in
    let stays : place ≡ 0 → ⊥ = λ z. omega arith in
    rw (body_goes list left place vars stays)
    (runs stays
    (⊎_elim (ends_here list left target after)
    (λ on. ends list station sound left target after (omega (arith, on.0)) on.1)
    (target_onward list station place vars is)))

-- on a sound list, from a record inside, running a body gives these variables exactly when the body ends with them
pub body_is :
    (list : List ℕ) (station place : ℕ) (vars end : List ℕ) → sound_list list ≡ true → inside list station place ≡ true →
    (body_run list (list_count list) place vars ≡ end) ↔ BodyEnds list place vars end
body_is list station place vars end sound here =
    let run = ends list station sound (list_count list) place vars (omega arith) here in
    (λ e. rw e at run, λ other. one_end list run other)
