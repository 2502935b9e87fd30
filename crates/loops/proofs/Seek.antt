-- What a turn of the loop over the file does: a record more is sought, and where it is an OD the place of its WHILE is noted.
-- Assumes nothing.
use mathlib.Core.Path.{◌≡◌, refl}
use mathlib.Core.List.{List, [], ◌∷◌, ◌++◌}
use Prim.Native.Nat.{ℕ, ◌+◌, ◌≤◌, ◌<◌}
use native.Mathlib.Numerals.{add-one}
use native.Mathlib.Omega.{arith}
use lib.ListN.{length, get_or, set}
use lib.Seq.{set_out}
use borrow.Author.Tests.{ne_eqb, lt-ltb, le-ltb}
use Rattle.rules.specs.Words.{values}
use Rattle.rules.specs.Names.{OD}
use Rattle.rules.specs.Records.{Record}
use Rattle.laws.proofs.Places.{values_suc}
use Rattle.loops.specs.declared.Seeking.{Seeking}
use Rattle.loops.specs.Loops.{max_loops, left, Sought, sought, noted, seek_record, seek_records}

seek_last : (rs : List Record) (r : Record) (x : Sought) → seek_records (rs ++ (r ∷ [])) x ≡ seek_record r (seek_records rs x)
unfolding seek_records
seek_last [] r x = refl
seek_last (q ∷ rs) r x = seek_last rs r (seek_record q x)

pub sought_more :
    (f : ℕ → Record) (i j kind : ℕ) (x start : Sought) (s : Seeking) (places : List ℕ) →
    j ≡ i + 1 → kind ≡ (f i).kind → x ≡ seek_records (values f i) start →
    s ≡ sought kind x.seeking → places ≡ noted kind x.seeking x.places →
    ◌≡◌ {A = Sought} (record { seeking = s; places = places }) (seek_records (values f j) start)
unfolding seek_record
sought_more f i j kind x start s places e k h a b =
    rw (e, add-one i, values_suc f i, seek_last (values f i) (f i) start, ← h, a, b, k)

-- at an OD, where there is room for one more, and where there is none; and at any other kind
module _ (s : Seeking) where
  pub sought_found : (kind : ℕ) → kind ≡ OD → s.found < max_loops → left (s.found + 1) s ≡ sought kind s
  unfolding sought
  sought_found kind e room = rw (e, lt-ltb _ _ room)

  pub sought_full : (kind : ℕ) → kind ≡ OD → max_loops ≤ s.found → left s.found s ≡ sought kind s
  unfolding sought
  sought_full kind e full = rw (e, le-ltb _ _ full)

  pub noted_found : (kind : ℕ) (places : List ℕ) → kind ≡ OD → set places s.found (get_or s.whiles s.depth 0) ≡ noted kind s places
  unfolding noted
  noted_found kind places e = rw e

  pub noted_full : (kind : ℕ) (places : List ℕ) → kind ≡ OD → length places ≡ max_loops → max_loops ≤ s.found → places ≡ noted kind s places
  unfolding noted
  noted_full kind places e long full = rw (e, set_out places s.found (get_or s.whiles s.depth 0) (omega arith))

  pub noted_none : (kind : ℕ) (places : List ℕ) → (kind ≡ OD → ⊥) → places ≡ noted kind s places
  unfolding noted
  noted_none kind places e = rw (ne_eqb _ _ e)
