-- Check accepts a file exactly when it passes the five tests; and where the fields are right, a record of a kind that the
-- table leaves all zero is bare. Assumes nothing.
use mathlib.Core.Path.{◌≡◌, refl, ap}
use mathlib.Core.Logic.{◌↔◌}
use mathlib.Core.Bool.{true, ◌&&◌, not}
use mathlib.Core.List.{List, ◌∷◌}
use Prim.Native.Nat.{ℕ, zero, suc, ◌<◌}
use native.Mathlib.Omega.{arith}
use lib.Dec.{eqb}
use borrow.Author.Tests.{eqb-true, leb-true, le-leb, ltb-false, le-ltb, not-false}
use Rattle.rules.specs.Words.{values}
use Rattle.rules.specs.Names.{max_stations}
use Rattle.rules.specs.Records.{Record, record_at, record_count, records}
use Rattle.rules.specs.Fields.{fields_right, rules_of}
use Rattle.rules.specs.Check.{field_place, station_count, depth_place, check_tests, check}
use Rattle.laws.proofs.Choice.{both_left, both_right, split}
use Rattle.laws.proofs.Judge.{unrefused, judge_silent}
use Rattle.laws.proofs.Places.{first_before}
use Rattle.reading.specs.Accepted.{Accepted}
use Rattle.reading.proofs.Walk.{kinds_of, Bare, All-bare}

pub accepted_is : (file : List ℕ) → ((check file).number ≡ 0) ↔ Accepted file
unfolding check
accepted_is file =
    let tests = unrefused (check_tests file) refl in (
      λ h.
          let t = tests.0 h in
          let (low, high) = split _ _ (not-false _ t.1.1.0) in
          record {
            size = t.0;
            fields = ltb-false (field_place file) (record_count file) t.1.0;
            some_station = leb-true 1 (station_count file) low;
            few_stations = leb-true (station_count file) max_stations high;
            shape = not-false _ t.1.1.1.0;
            depth = ltb-false (depth_place file) (record_count file) t.1.1.1.1.0;
          },
      λ h. tests.1 (
        h.size,
        (
          le-ltb (field_place file) (record_count file) h.fields,
          (
            rw (le-leb 1 (station_count file) h.some_station, le-leb (station_count file) max_stations h.few_stations),
            (rw h.shape, (le-ltb (depth_place file) (record_count file) h.depth, tt)),
          ),
        ),
      ),
    )

-- "An accepted sequence answers 0 and place 0"
pub check_accepts : (file : List ℕ) → Accepted file → check file ≡ record { number = 0; place = 0 }
unfolding check
check_accepts file h = judge_silent (check_tests file) ((unrefused (check_tests file) refl).0 ((accepted_is file).1 h))

bare_right : (r : Record) → fields_right r ≡ true → Bare r
unfolding fields_right rules_of
bare_right r e t =
    let all : (eqb r.a 0 && eqb r.b 0 && eqb r.op 0 && eqb r.k 0) ≡ true = rw t at e in
    let abo = both_left _ (eqb r.k 0) all in
    let ab = both_left _ (eqb r.op 0) abo in
    let a = eqb-true r.a 0 (both_left _ (eqb r.b 0) ab) in
    let b = eqb-true r.b 0 (both_right (eqb r.a 0) _ ab) in
    let op = eqb-true r.op 0 (both_right (eqb r.a 0 && eqb r.b 0) _ abo) in
    let k = eqb-true r.k 0 (both_right (eqb r.a 0 && eqb r.b 0 && eqb r.op 0) _ all) in
    λ i. record { kind = r.kind; a = a i; b = b i; op = op i; k = k i }

all_bare : (f : ℕ → Record) (n : ℕ) → ((i : ℕ) → i < n → fields_right (f i) ≡ true) → All-bare (values f n)
unfolding values
all_bare f zero h = tt
all_bare f (suc n) h = (bare_right (f 0) (h 0 (omega arith)), all_bare (λ i. f (suc i)) n (λ i l. h (suc i) (omega arith)))

pub file_bare : (file : List ℕ) → Accepted file → All-bare (records file)
unfolding field_place
file_bare file p =
    let none = p.fields in
    all_bare (record_at file) (record_count file)
    (λ i h. not-false _ (first_before (λ i. not (fields_right (record_at file i))) (record_count file) i (omega arith)))

-- the kinds of a file's records
pub kinds_values : (f : ℕ → Record) (n : ℕ) → kinds_of (values f n) ≡ values (λ i. (f i).kind) n
unfolding values
kinds_values f zero = refl
kinds_values f (suc n) = ap (λ (l : List ℕ). (f 0).kind ∷ l) (kinds_values (λ i. f (suc i)) n)
