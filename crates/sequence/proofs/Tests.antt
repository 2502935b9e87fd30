-- The five tests in their order: the first that refuses gives the answer. Assumes nothing.
use Rattle.std.proofs.Common.{Some, None, Ok, Err}
use mathlib.Core.Path.{◌≡◌, sym, ◌∙◌}
use mathlib.Core.Bool.{true, false, ◌||◌, not}
use mathlib.Core.List.{List, [], ◌∷◌}
use Prim.Native.Nat.{ℕ, ◌*◌, ◌%◌, ◌≤◌, zero-le}
use native.Mathlib.Omega.{arith}
use lib.Dec.{eqb}
use lib.ListN.{length}
use borrow.Author.Tests.{ltb-false, lt-ltb, le-ltb, le-leb}
use Rattle.rules.specs.Words.{judge}
use Rattle.rules.specs.Names.{LENGTH, FIELD, COUNT, SHAPE, DEPTH, max_records}
use Rattle.rules.specs.Records.{record_count}
use Rattle.rules.specs.Shape.{Stand, initial, stride, is_wrong, wrong_at, well_shaped, shape_place}
use Rattle.rules.specs.Check.{kinds, wrong_length, field_place, depth_place, check}
use Rattle.laws.proofs.Choice.{by_test, neither}
use Rattle.shape.specs.File.{shape_of, file_shape}
use Rattle.laws.proofs.Kind.{length_kinds}
use Rattle.sequence.specs.Answer.{answer, wrong_count}
use Rattle.sequence.proofs.Below.{below, some_below, none_below}

-- a file that is not well shaped, and its place
well : (kinds : List ℕ) → shape_of kinds ≡ Ok tt → not (well_shaped kinds) ≡ false
well kinds e = by_test (well_shaped kinds) (λ w. rw w) (λ w. let f = rw w at e in cc)

ill : (kinds : List ℕ) (place : ℕ) → shape_of kinds ≡ Err place → (not (well_shaped kinds) ≡ true) × (shape_place kinds ≡ place)
ill kinds place e =
    by_test (well_shaped kinds) (λ w. let f = rw w at e in absurd cc)
    (λ w. let f = rw w at e in (rw w, cc))

wrong_within : (stand : Stand) (kinds : List ℕ) → wrong_at stand kinds ≤ length kinds
unfolding wrong_at
wrong_within stand [] = zero-le
wrong_within stand (kind ∷ kinds) =
    let h = wrong_within (stride stand kind) kinds in
    by_test (is_wrong (stride stand kind)) (λ e. rw e zero-le) (λ e. rw e (omega arith))

module _ (file : List ℕ) where
  pub length_refuses : wrong_length file ≡ true → check file ≡ answer LENGTH 0
  unfolding check judge
  length_refuses a = rw a

  module _ (a : wrong_length file ≡ false) where
    -- so every place fits the answer
    pub short : length file ≤ 8 * max_records
    unfolding wrong_length
    short =
        let uneven_or_none = not (eqb (length file % 8) 0) || eqb (length file) 0 in
        ltb-false (8 * max_records) (length file) (neither uneven_or_none _ a).1

    pub place_few : (p place : ℕ) → below (record_count file) p ≡ Some place → place ≤ max_records
    place_few p place e = let h = some_below _ _ _ e in omega (arith, short)

    -- and the file's shape is read
    pub shape_read : file_shape file ≡ shape_of (kinds file)
    shape_read = rw (le-leb _ _ short)

    pub shape_few : (place : ℕ) → file_shape file ≡ Err place → place ≤ max_records
    shape_few place e =
        let ill_at : shape_place (kinds file) ≡ place = (ill (kinds file) place (sym shape_read ∙ e)).1 in
        let h : place ≤ record_count file = rw (ill_at, length_kinds file) at (wrong_within initial (kinds file)) in
        omega (arith, short)

    pub field_refuses : (place : ℕ) → below (record_count file) (field_place file) ≡ Some place → check file ≡ answer FIELD place
    unfolding check judge
    field_refuses place e = let (at, within) = some_below _ _ _ e in rw (a, at, lt-ltb _ _ within)

    module _ (b : below (record_count file) (field_place file) ≡ None) where
      pub count_refuses : wrong_count file ≡ true → check file ≡ answer COUNT 0
      unfolding check judge
      count_refuses d = rw (a, le-ltb _ _ (none_below _ _ b), d)

      module _ (d : wrong_count file ≡ false) where
        pub shape_refuses : (place : ℕ) → file_shape file ≡ Err place → check file ≡ answer SHAPE place
        unfolding check judge
        shape_refuses place e =
            let (broken, at) = ill (kinds file) place (sym shape_read ∙ e) in
            rw (a, le-ltb _ _ (none_below _ _ b), d, broken, at)

        module _ (e : file_shape file ≡ Ok tt) where
          pub depth_refuses : (place : ℕ) → below (record_count file) (depth_place file) ≡ Some place → check file ≡ answer DEPTH place
          unfolding check judge
          depth_refuses place f =
              let (at, within) = some_below _ _ _ f in
              rw (a, le-ltb _ _ (none_below _ _ b), d, well (kinds file) (sym shape_read ∙ e), at, lt-ltb _ _ within)

          pub accepts : below (record_count file) (depth_place file) ≡ None → check file ≡ answer 0 0
          unfolding check judge
          accepts f =
              rw (a, le-ltb _ _ (none_below _ _ b), d, well (kinds file) (sym shape_read ∙ e), le-ltb _ _ (none_below _ _ f))
