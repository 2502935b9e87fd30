-- The tests of the list and of the state, where one of them refuses: what follows them is not asked. Assumes nothing.
use Prim.Native.Nat.{ℕ, ◌%◌}
use mathlib.Core.Path.{◌≡◌, refl, sym, ap, ◌∙◌}
use Rattle.std.specs.Prelude.{Option, Some, None, option_map, Result, Ok, Err, is_err, if◌then◌else◌}
use mathlib.Core.Bool.{Bool, true, false}
use mathlib.Core.List.{List, ◌++◌}
use native.Mathlib.Omega.{arith}
use lib.Dec.{eqb}
use lib.ListN.{length}
use borrow.Author.Tests.{eqb-false}
use Rattle.rules.specs.Words.{Test, Answer, judge, refusal}
use Rattle.rules.specs.Records.{Pick}
use Rattle.rules.specs.State.{State}
use Rattle.rules.specs.Lent.{Lent}
use Rattle.rules.specs.Step.{room_tests, pick_tests, step}
use Rattle.rules.specs.Run.{run_tests}
use Rattle.rules.specs.Lights.{lights_tests}
use Rattle.record.specs.declared.refusal.Refusal.{Refusal}
use Rattle.record.specs.Refusals.{told_number}
use Rattle.picking.proofs.Refused.{not_none}
use Rattle.laws.specs.Passed.{Known}
use Rattle.laws.proofs.Choice.{by_test}
use Rattle.laws.proofs.Passed.{lights_passed}
use Rattle.laws.proofs.Judge.{judge_before}

module _ (list : List ℕ) (s : State) {number : ℕ} (is : number ≡ refusal (lights_tests list s)) (some : eqb number 0 ≡ false) where
  pub unasked : (rest : List Test) → refusal (lights_tests list s ++ rest) ≡ number
  unasked rest =
      ap (λ (a : Answer). a.number) (judge_before (lights_tests list s) rest (λ none. eqb-false number 0 some (is ∙ none))) ∙ sym is

  pub step_unasked : (lent : Lent) (p : Pick) → record { number = number; state = s; lent = lent } ≡ step list s lent p
  unfolding step
  step_unasked lent p = rw (unasked (room_tests s lent ++ pick_tests list s p), some)

-- picks, a list and a state that a run does not refuse
pub run_known : (list : List ℕ) (s : State) (picks : List ℕ) → 0 ≡ refusal (run_tests list s picks) → Known list s
unfolding judge
run_known list s picks none =
    by_test (eqb (length picks % 2) 1)
    (λ e. absurd (omega (arith, rw e at none)))
    (λ e. (lights_passed list s).0 (sym (rw e at none)))

-- a value that is there where a test holds
module _ {A B : Type 0} (f : A → B) (r : Option A) where
  pub missed : (right : Bool) (s : B) → option_map f r ≡ (if right then Some s else None) → r ≡ None → right ≡ false
  missed true s h e = let k = rw e at h in cc
  missed false s h e = refl

  pub found : (right : Bool) (s : B) (x : A) → option_map f r ≡ (if right then Some s else None) → r ≡ Some x → (right ≡ true) × (f x ≡ s)
  found true s x h e = let k = rw e at h in (refl, cc)
  found false s x h e = let k = rw e at h in absurd (cc)

-- what an outcome is told by, where it refuses and where it doesn't
pub told_err : (r : Result (Unit {0}) Refusal) → is_err r ≡ true → eqb (told_number r) 0 ≡ false
told_err (Ok x) e = absurd (cc)
told_err (Err refusal) e = not_none refusal

pub told_ok : (r : Result (Unit {0}) Refusal) → is_err r ≡ false → told_number r ≡ 0
told_ok (Ok x) e = refl
told_ok (Err refusal) e = absurd (cc)
