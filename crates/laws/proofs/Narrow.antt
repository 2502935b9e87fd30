-- A list as a run reads it: the records that `narrow` spells, and that it leaves a sound list as it is. Assumes nothing.
use Rattle.std.specs.Prelude.{if◌then◌else◌}
use mathlib.Core.Path.{◌≡◌, ap, ◌∙◌}
use mathlib.Core.Bool.{true}
use mathlib.Core.List.{List, [], ◌∷◌}
use Prim.Native.Nat.{ℕ, ◌+◌, ◌*◌, ◌/◌, ◌%◌, ◌≤◌, ◌<◌}
use native.Mathlib.Nat.{add_assoc, add-zero, mod-eq_of_lt}
use native.Mathlib.Omega.{arith}
use lib.Dec.{eqb}
use lib.ListN.{length, get_or, get_or-eq_default}
use lib.Seq.{ext_get_or}
use borrow.Author.Tests.{eqb-true}
use Rattle.rules.specs.Words.{among, values}
use Rattle.rules.specs.Names.{variables}
use Rattle.rules.specs.Records.{ListRecord, record_from, list_record_at, list_count}
use Rattle.rules.specs.List.{sound_list}
use Rattle.laws.specs.Narrow.{narrow_byte, narrow}
use Rattle.laws.proofs.Choice.{by_test}
use Rattle.laws.proofs.Places.{length_values, get_or_values, values_same}
use Rattle.laws.proofs.Sound.{whole}
use Rattle.laws.proofs.Named.{sound_named}

-- a record of which a and b are taken modulo 32
abbrev pub narrowed : ListRecord → ListRecord
narrowed e =
    record {
      own = record { kind = e.own.kind; a = e.own.a % variables; b = e.own.b % variables; op = e.own.op; k = e.own.k };
      station = e.station;
      inside = e.inside;
      t1 = e.t1;
      t2 = e.t2;
      spare = e.spare;
    }

-- a record is what its sixteen bytes spell
spelled : (list : List ℕ) (p : ℕ) (f : ℕ → ℕ) → ((j : ℕ) → j < 16 → get_or list (16 * p + j) 0 ≡ f j)
    → list_record_at list p ≡ list_record_at (values f 16) 0
unfolding record_from list_record_at values
spelled list p f bytes =
    let itself : list_record_at list p ≡ list_record_at (values (λ j. get_or list (16 * p + j) 0) 16) 0 = simp (add_assoc, add-zero) in
    itself ∙ ap (λ (sixteen : List ℕ). list_record_at sixteen 0) (values_same _ f 16 bytes)

module _ (list : List ℕ) where
  length_narrow : length (narrow list) ≡ 16 * list_count list
  unfolding narrow
  length_narrow = length_values (narrow_byte list) (16 * list_count list)

  -- it has as many records
  pub narrow_count : list_count (narrow list) ≡ list_count list
  narrow_count = let long = length_narrow in omega arith

  byte_at : (i : ℕ) → i < 16 * list_count list → get_or (narrow list) i 0 ≡ narrow_byte list i
  unfolding narrow
  byte_at i = get_or_values (narrow_byte list) (16 * list_count list) i 0

  module _ (p : ℕ) where
    -- of a whole record a and b are taken modulo 32
    pub narrow_at : p < list_count list → list_record_at (narrow list) p ≡ narrowed (list_record_at list p)
    unfolding record_from list_record_at values
    narrow_at within =
        let byte : ℕ → ℕ = λ j. get_or list (16 * p + j) 0 in
        spelled (narrow list) p (λ j. if among j (1 ∷ 2 ∷ []) then byte j % variables else byte j)
        (λ j l. let back : (16 * p + j) % 16 ≡ j = omega arith in byte_at (16 * p + j) (omega arith) ∙ rw back)
        ∙ simp (add_assoc, add-zero)

    -- past the whole records there are zeros
    pub narrow_past : list_count list ≤ p
        → list_record_at (narrow list) p ≡ record { own = record { kind = 0; a = 0; b = 0; op = 0; k = 0 }; station = 0; inside = 0; t1 = 0; t2 = 0; spare = 0 }
    unfolding record_from list_record_at values
    narrow_past past =
        let long = length_narrow in
        spelled (narrow list) p (λ j. 0) (λ j l. get_or-eq_default (narrow list) 0 {n = 16 * p + j} (omega arith))

  -- of a sound list each a and b is below 32 as it is
  pub narrow_sound : sound_list list ≡ true → narrow list ≡ list
  unfolding record_from list_record_at
  narrow_sound sound = ext_get_or 0 _ _ (length_narrow ∙ whole list sound) same
    where
      same : (i : ℕ) → i < length (narrow list) → get_or (narrow list) i 0 ≡ get_or list i 0
      same i l =
          let within : i < 16 * list_count list = rw length_narrow at l in
          let named = sound_named list sound (i / 16) (omega arith) in
          byte_at i within
          ∙ by_test (eqb (i % 16) 1)
          (λ e. let there : 16 * (i / 16) + 1 ≡ i = omega (arith, eqb-true) in rw e (mod-eq_of_lt (rw there at named.0)))
          (λ e. by_test (eqb (i % 16) 2)
          (λ d. let there : 16 * (i / 16) + 2 ≡ i = omega (arith, eqb-true) in rw (e, d) (mod-eq_of_lt (rw there at named.1)))
          (λ d. rw (e, d)))
