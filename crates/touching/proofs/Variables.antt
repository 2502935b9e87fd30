-- What is touched, variable by variable, with one variable more or none. Assumes nothing.
use mathlib.Core.Path.{◌≡◌, sym, ◌∙◌}
use mathlib.Core.Bool.{Bool, true, false, or-false, or-true}
use mathlib.Core.List.{List}
use Prim.Native.Nat.{ℕ, ◌<◌}
use native.Mathlib.Omega.{arith}
use borrow.Author.Tests.{eqb-true, eqb-false}
use lib.Dec.{eqb}
use lib.ListN.{length, get_or, set, length-set}
use lib.Seq.{ext_get_or, get_or-set_same, get_or-set_other}
use Rattle.rules.specs.Words.{values}
use Rattle.rules.specs.Names.{variables}
use Rattle.laws.proofs.Choice.{by_test}
use Rattle.laws.proofs.Places.{length_values, get_or_values}
use Rattle.touching.specs.Touching.{added}

-- 32 answers are those that stand at each variable
answers : (xs : List Bool) (f : ℕ → Bool) → length xs ≡ variables → ((v : ℕ) → v < variables → get_or xs v false ≡ f v)
    → xs ≡ values f variables
answers xs f long same =
    ext_get_or false xs (values f variables) (long ∙ sym (length_values f variables))
    (λ v l. let within : v < variables = omega arith in same v within ∙ sym (get_or_values f variables v false within))

-- a test that fails adds nothing
pub added_none : (before : List Bool) (test : ℕ → Bool) → length before ≡ variables
    → ((v : ℕ) → v < variables → test v ≡ false) → before ≡ added before test
added_none before test long fails = answers before _ long (λ v l. rw (fails v l, or-false))

-- one variable more
pub added_one : (before : List Bool) (v : ℕ) → length before ≡ variables → v < variables
    → set before v true ≡ added before (λ i. eqb v i)
added_one before v long within =
    answers (set before v true) _ (length-set before v true ∙ long)
    (λ i l. by_test (eqb v i)
    (λ e. rw (e, or-true, ← eqb-true v i e) (get_or-set_same before v true false (omega arith)))
    (λ e. rw (e, or-false) (get_or-set_other before v i true false (λ same. eqb-false v i e (sym same)))))
