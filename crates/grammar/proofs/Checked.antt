-- What check answers for a file that passes the tests before SHAPE. Assumes nothing.
use mathlib.Core.Path.{◌≡◌, sym, ap, ◌∙◌}
use mathlib.Core.Bool.{true, false, not}
use mathlib.Core.List.{List, [], ◌∷◌}
use Prim.Native.Nat.{ℕ, ◌<◌}
use native.Mathlib.Omega.{arith}
use lib.Dec.{ltb}
use borrow.Author.Tests.{ltb-true, lt-ltb}
use Rattle.rules.specs.Words.{Answer, Test, ◌refuses◌at◌, judge}
use Rattle.rules.specs.Names.{SHAPE, DEPTH}
use Rattle.rules.specs.Records.{record_count}
use Rattle.rules.specs.Shape.{well_shaped, shape_place}
use Rattle.rules.specs.Check.{kinds, depth_place, check}
use Rattle.laws.proofs.Choice.{by_test}
use Rattle.laws.proofs.Judge.{judge_yes, judge_no}
use Rattle.grammar.specs.Grammar.{Sequence}
use Rattle.grammar.specs.Meaning.{Fault, Passes-three}
use Rattle.grammar.proofs.Made.{made}
use Rattle.grammar.proofs.Taken.{is_sequence}
use Rattle.grammar.proofs.Placed.{fault_of, fault_place}

number : {a b : Answer} → a ≡ b → a.number ≡ b.number
number = ap (λ (a : Answer). a.number)

module _ (file : List ℕ) (p : Passes-three file) where
  depth_test : List Test
  depth_test = (ltb (depth_place file) (record_count file) refuses DEPTH at depth_place file) ∷ []

  from_shape : check file ≡ judge ((not (well_shaped (kinds file)) refuses SHAPE at shape_place (kinds file)) ∷ depth_test)
  unfolding check depth_test
  from_shape = judge_no _ _ _ _ p.length_right ∙ judge_no _ _ _ _ p.fields_right ∙ judge_no _ _ _ _ p.count_right

  refuses_shape : well_shaped (kinds file) ≡ false → check file ≡ record { number = SHAPE; place = shape_place (kinds file) }
  refuses_shape e = from_shape ∙ judge_yes _ _ _ _ (ap not e)

  module _ (e : well_shaped (kinds file) ≡ true) where
    from_depth : check file ≡ judge depth_test
    from_depth = from_shape ∙ judge_no _ _ _ _ (ap not e)

    refuses_deep : ltb (depth_place file) (record_count file) ≡ true → check file ≡ record { number = DEPTH; place = depth_place file }
    unfolding depth_test
    refuses_deep t = from_depth ∙ judge_yes _ _ _ _ t

    accepts : ltb (depth_place file) (record_count file) ≡ false → check file ≡ record { number = 0; place = 0 }
    unfolding depth_test judge
    accepts t = from_depth ∙ judge_no (ltb (depth_place file) (record_count file)) DEPTH (depth_place file) [] t

    passes_shape : (check file).number ≡ SHAPE → ⊥
    passes_shape n =
        by_test (ltb (depth_place file) (record_count file))
        (λ t. let z : DEPTH ≡ SHAPE = sym (number (refuses_deep t)) ∙ n in omega arith)
        (λ t. let z : 0 ≡ SHAPE = sym (number (accepts t)) ∙ n in omega arith)

    pub deep_of : (i : ℕ) → check file ≡ record { number = DEPTH; place = i } → (i < record_count file) × (depth_place file ≡ i)
    deep_of i c =
        by_test (ltb (depth_place file) (record_count file))
        (λ t. let same : depth_place file ≡ i = ap (λ (a : Answer). a.place) (sym (refuses_deep t) ∙ c) in
        let h = ltb-true (depth_place file) (record_count file) t in
        (omega arith, same))
        (λ t. let z : 0 ≡ DEPTH = sym (number (accepts t)) ∙ number c in absurd (omega arith))

    pub deep_refused : (i : ℕ) → i < record_count file → depth_place file ≡ i → check file ≡ record { number = DEPTH; place = i }
    deep_refused i h same =
        refuses_deep (lt-ltb (depth_place file) (record_count file) (omega arith))
        ∙ ap (λ (n : ℕ). record { number = DEPTH; place = n }) same

  pub fault_refused : (i : ℕ) → Fault (kinds file) i → check file ≡ record { number = SHAPE; place = i }
  fault_refused i f =
      let q = fault_place (kinds file) i f in
      refuses_shape q.1 ∙ ap (λ (n : ℕ). record { number = SHAPE; place = n }) q.0

  pub refused_fault : (i : ℕ) → check file ≡ record { number = SHAPE; place = i } → Fault (kinds file) i
  refused_fault i c =
      by_test (well_shaped (kinds file))
      (λ t. absurd (passes_shape t (number c)))
      (λ f. fault_of (kinds file) i (ap (λ (a : Answer). a.place) (sym (refuses_shape f) ∙ c)) f)

  pub passed_sequence : ((check file).number ≡ SHAPE → ⊥) → Sequence (kinds file)
  passed_sequence n = by_test (well_shaped (kinds file)) (is_sequence (kinds file)) (λ f. absurd (n (number (refuses_shape f))))

  pub sequence_passed : Sequence (kinds file) → (check file).number ≡ SHAPE → ⊥
  sequence_passed s = passes_shape (made s)
