-- What SHAPE and DEPTH mean: the grammar of the document decides what is well shaped and which place is answered, and the parts that
-- are open decide what is too deep. Assumes nothing.
use mathlib.Core.Path.{◌≡◌, sym, ap, ◌∙◌}
use mathlib.Core.Bool.{true, false}
use mathlib.Core.Logic.{◌↔◌}
use mathlib.Core.List.{List, [], append-nil}
use Prim.Native.Nat.{ℕ, suc, ◌<◌}
use lib.ListN.{length, take}
use Rattle.rules.specs.Words.{first}
use Rattle.rules.specs.Names.{SHAPE, DEPTH}
use Rattle.rules.specs.Records.{record_at, record_count}
use Rattle.rules.specs.Shape.{initial, well_shaped, shape_place, too_deep_at}
use Rattle.rules.specs.Check.{kinds, depth_place, check}
use Rattle.laws.proofs.Places.{length_values}
use Rattle.grammar.specs.Grammar.{Sequence, Continues}
use Rattle.grammar.specs.Meaning.{Fault, Passes-three, seventeenth}
use Rattle.grammar.proofs.Made.{made}
use Rattle.grammar.proofs.Taken.{is_sequence}
use Rattle.grammar.proofs.Continued.{begins_right}
use Rattle.grammar.proofs.Placed.{place_begins, begins_place, count_begins, begins_count, not_shaped, not_sequence}
use Rattle.grammar.proofs.Deep.{deep}
use Rattle.grammar.proofs.Checked.{refused_fault, fault_refused, passed_sequence, sequence_passed, deep_of, deep_refused}

module _ (ks : List ℕ) where
  pub shaped_is : (well_shaped ks ≡ true) ↔ Sequence ks
  shaped_is = (is_sequence ks, made)

  -- "the first record after which no continuation … is well shaped"
  pub place_is : (i : ℕ) → i < length ks → (shape_place ks ≡ i) ↔ (Continues (take i ks) × (Continues (take (suc i) ks) → ⊥))
  place_is i h = (place_begins ks i h, λ b. begins_place ks i h b.0 b.1)

  -- "if there is none and the file is unfinished, the number of records"
  pub count_is : ((shape_place ks ≡ length ks) × (well_shaped ks ≡ false)) ↔ (Continues ks × (Sequence ks → ⊥))
  count_is = (λ e. (count_begins ks e.0, not_sequence ks e.1), λ b. (begins_count ks b.0, not_shaped ks b.1))

  -- "first record that is the seventeenth open"; the number of records where there is none
  pub depth_is : Sequence ks → too_deep_at 0 ks ≡ first (seventeenth ks) (length ks)
  depth_is s = deep initial ks tt (begins_right ks ([], rw append-nil s))

depth_place_is : (file : List ℕ) → Sequence (kinds file) → depth_place file ≡ first (seventeenth (kinds file)) (record_count file)
unfolding depth_place
depth_place_is file s =
    depth_is (kinds file) s ∙ ap (first (seventeenth (kinds file))) (length_values (λ i. (record_at file i).kind) (record_count file))

-- check's answer, for a file that passes the tests before SHAPE
module _ (file : List ℕ) (p : Passes-three file) where
  pub check_fault : (i : ℕ) → (check file ≡ record { number = SHAPE; place = i }) ↔ Fault (kinds file) i
  check_fault i = (refused_fault file p i, fault_refused file p i)

  pub check_shaped : ((check file).number ≡ SHAPE → ⊥) ↔ Sequence (kinds file)
  check_shaped = (passed_sequence file p, sequence_passed file p)

  pub check_deep : Sequence (kinds file) → (i : ℕ) → (check file ≡ record { number = DEPTH; place = i })
      ↔ ((i < record_count file) × (first (seventeenth (kinds file)) (record_count file) ≡ i))
  check_deep s i =
      let place = depth_place_is file s in
      (λ c. let q = deep_of file p (made s) i c in (q.0, sym place ∙ q.1), λ q. deep_refused file p (made s) i q.0 (place ∙ q.1))
