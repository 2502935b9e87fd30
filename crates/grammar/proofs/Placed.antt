-- The place that SHAPE answers, by what begins a well-shaped sequence. Assumes nothing.
use mathlib.Core.Path.{◌≡◌, refl, sym, ◌∙◌}
use mathlib.Core.Bool.{Bool, true, false, true≢false}
use mathlib.Core.List.{List, [], ◌∷◌}
use Prim.Native.Nat.{ℕ, zero, suc, ◌≤◌, ◌<◌}
use native.Mathlib.Omega.{arith}
use lib.Dec.{ltb}
use borrow.Author.Tests.{ltb-true, ltb-false}
use lib.ListN.{length, take, drop, take-append-drop}
use lib.Seq.{take-length, take-take}
use Rattle.rules.specs.Words.{first}
use Rattle.rules.specs.Shape.{Stand, initial, stride, is_wrong, walked, wrong_at, well_shaped, shape_place}
use Rattle.laws.proofs.Choice.{by_test}
use Rattle.laws.proofs.Places.{first_is, first_none, first_within, first_before, first_at}
use Rattle.grammar.specs.Grammar.{Sequence, Continues}
use Rattle.grammar.specs.Meaning.{Fault, at_record, unfinished}
use Rattle.grammar.proofs.Made.{made}
use Rattle.grammar.proofs.Taken.{is_sequence}
use Rattle.grammar.proofs.Continued.{right_before, right_begins, begins_right}

-- the walk over the records up to this one, it too, is wrong
abbrev wrong_after : Stand → List ℕ → ℕ → Bool
wrong_after s ks i = is_wrong (walked s (take (suc i) ks))

place_first : (s : Stand) (ks : List ℕ) → wrong_at s ks ≡ first (wrong_after s ks) (length ks)
unfolding wrong_at first walked
place_first s [] = refl
place_first s (k ∷ ks) = rw (place_first (stride s k) ks)

-- with a first part that begins a sequence, a shorter one does
begins_shorter : (ks : List ℕ) (i : ℕ) → Continues ks → is_wrong (walked initial (take i ks)) ≡ false
begins_shorter ks i b = right_before (take i ks) (drop i ks) (rw take-append-drop (begins_right ks b))

not_begun : (ks : List ℕ) → (Continues ks → ⊥) → is_wrong (walked initial ks) ≡ true
not_begun ks n = by_test (is_wrong (walked initial ks)) (λ e. e) (λ e. absurd (n (right_begins ks e)))

begun_before : (ks : List ℕ) (i : ℕ) → i ≤ first (wrong_after initial ks) (length ks) → Continues (take i ks)
unfolding walked
begun_before ks zero h = right_begins (take 0 ks) refl
begun_before ks (suc i) h = right_begins (take (suc i) ks) (first_before (wrong_after initial ks) (length ks) i h)

module _ (ks : List ℕ) where
  pub place_begins : (i : ℕ) → i < length ks → shape_place ks ≡ i → Continues (take i ks) × (Continues (take (suc i) ks) → ⊥)
  place_begins i h e =
      let f : first (wrong_after initial ks) (length ks) ≡ i = sym (place_first initial ks) ∙ e in (
        begun_before ks i (omega arith),
        λ b. true≢false (sym (rw f at (first_at (wrong_after initial ks) (length ks) (omega arith))) ∙ begins_right (take (suc i) ks) b),
      )

  pub begins_place : (i : ℕ) → i < length ks → Continues (take i ks) → (Continues (take (suc i) ks) → ⊥) → shape_place ks ≡ i
  begins_place i h b n =
      place_first initial ks
      ∙ first_is (wrong_after initial ks) (length ks) i h (not_begun (take (suc i) ks) n)
      (λ k l. rw (take-take (suc k) i ks l) at (begins_shorter (take i ks) (suc k) b))

  pub count_begins : shape_place ks ≡ length ks → Continues ks
  count_begins e =
      let f : first (wrong_after initial ks) (length ks) ≡ length ks = sym (place_first initial ks) ∙ e in
      rw take-length at (begun_before ks (length ks) (omega arith))

  pub begins_count : Continues ks → shape_place ks ≡ length ks
  begins_count b = place_first initial ks ∙ first_none (wrong_after initial ks) (length ks) (λ k l. begins_shorter ks (suc k) b)

  pub not_shaped : (Sequence ks → ⊥) → well_shaped ks ≡ false
  not_shaped n = by_test (well_shaped ks) (λ e. absurd (n (is_sequence ks e))) (λ e. e)

  pub not_sequence : well_shaped ks ≡ false → Sequence ks → ⊥
  not_sequence e s = true≢false (sym (made s) ∙ e)

  pub fault_of : (i : ℕ) → shape_place ks ≡ i → well_shaped ks ≡ false → Fault ks i
  fault_of i e f =
      let most = first_within (wrong_after initial ks) (length ks) in
      let p : first (wrong_after initial ks) (length ks) ≡ i = sym (place_first initial ks) ∙ e in
      by_test (ltb i (length ks))
      (λ t. let b = place_begins i (ltb-true i (length ks) t) e in at_record (ltb-true i (length ks) t) b.0 b.1)
      (λ t. let least = ltb-false i (length ks) t in
      let last : i ≡ length ks = omega arith in
      unfinished last (count_begins (e ∙ last)) (not_sequence f))

  pub fault_place : (i : ℕ) → Fault ks i → (shape_place ks ≡ i) × (well_shaped ks ≡ false)
  fault_place i (at_record h b n) =
      (begins_place i h b n, not_shaped (λ s. n (drop (suc i) ks, rw take-append-drop s)))
  fault_place i (unfinished e b n) = (begins_count b ∙ sym e, not_shaped n)
