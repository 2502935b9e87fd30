-- Tests made in order: the first that holds gives the answer. Assumes nothing.
use Rattle.std.specs.Prelude.{if◌then◌else◌}
use mathlib.Core.Path.{◌≡◌, refl, sym, ◌∙◌}
use mathlib.Core.Logic.{◌↔◌}
use mathlib.Core.Bool.{Bool, true, false, ◌&&◌, not, true≢false, or-true}
use mathlib.Core.List.{List, [], ◌∷◌, ◌++◌}
use Prim.Native.Nat.{ℕ}
use borrow.Author.Tests.{eqb-true, eqb-false, eq-eqb, not-true}
use lib.Dec.{eqb}
use Rattle.rules.specs.Words.{among, Test, ◌refuses◌at◌, judge, refusal}
use Rattle.laws.proofs.Choice.{by_test, both_left, both_right}

pub judge_yes : (b : Bool) (n p : ℕ) (ts : List Test) → b ≡ true → judge ((b refuses n at p) ∷ ts) ≡ record { number = n; place = p }
unfolding judge
judge_yes b n p ts e = rw e

pub judge_no : (b : Bool) (n p : ℕ) (ts : List Test) → b ≡ false → judge ((b refuses n at p) ∷ ts) ≡ judge ts
unfolding judge
judge_no b n p ts e = rw e

-- none of the tests holds
abbrev pub Silent : List Test → Type 0
Silent [] = Unit
Silent ((holds refuses number at place) ∷ tests) = (holds ≡ false) × Silent tests

-- then nothing is refused, and further tests decide
pub judge_silent : (ts : List Test) → Silent ts → judge ts ≡ record { number = 0; place = 0 }
unfolding judge
judge_silent [] h = refl
judge_silent ((b refuses n at p) ∷ ts) h = rw h.0 (judge_silent ts h.1)

pub judge_then : (ts us : List Test) → Silent ts → judge (ts ++ us) ≡ judge us
unfolding judge
judge_then [] us h = refl
judge_then ((b refuses n at p) ∷ ts) us h = rw h.0 (judge_then ts us h.1)

-- a refusal is not changed by further tests
pub judge_before : (ts us : List Test) → (refusal ts ≡ 0 → ⊥) → judge (ts ++ us) ≡ judge ts
unfolding judge
judge_before [] us h = absurd (h refl)
judge_before ((b refuses n at p) ∷ ts) us h =
    by_test b (λ t. rw t) (λ t. rw t (judge_before ts us (λ e. h (rw t e))))

-- no test has the number 0
abbrev pub numbered : List Test → Bool
numbered [] = true
numbered ((holds refuses number at place) ∷ tests) = not (eqb number 0) && numbered tests

-- so the number 0 says that no test holds
pub unrefused : (tests : List Test) → numbered tests ≡ true → (refusal tests ≡ 0) ↔ Silent tests
unfolding judge
unrefused [] z = (λ h. tt, λ h. refl)
unrefused ((true refuses number at place) ∷ tests) z =
    (λ h. absurd (eqb-false number 0 (not-true _ (both_left (not (eqb number 0)) _ z)) h), λ h. absurd (true≢false h.0))
unrefused ((false refuses number at place) ∷ tests) z =
    let rest = unrefused tests (both_right (not (eqb number 0)) _ z) in
    (λ h. (refl, rest.0 h), λ h. rest.1 h.1)

-- a refusal's number is one of the tests'
abbrev numbers : List Test → List ℕ
numbers [] = []
numbers ((holds refuses number at place) ∷ tests) = number ∷ numbers tests

pub one_of_numbers : (tests : List Test) → (refusal tests ≡ 0 → ⊥) → among (refusal tests) (numbers tests) ≡ true
unfolding judge
one_of_numbers [] h = absurd (h refl)
one_of_numbers ((true refuses number at place) ∷ tests) h = rw (eq-eqb number number refl)
one_of_numbers ((false refuses number at place) ∷ tests) h = rw (one_of_numbers tests h, or-true)

-- a call answers one thing where nothing refuses it, and else another with the refusal's number: that number is its answer's
pub answer_number : {A : Type 0} (number : A → ℕ) (r : ℕ) (taken refused : A) → number taken ≡ 0 → number refused ≡ r
    → number (if eqb r 0 then taken else refused) ≡ r
answer_number number r taken refused t u =
    by_test (eqb r 0) (λ e. rw e (t ∙ sym (eqb-true r 0 e))) (λ e. rw e u)
