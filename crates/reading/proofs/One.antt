-- An accepted file has one reading. Assumes nothing.
use mathlib.Core.Path.{◌≡◌, sym, ap, ◌∙◌}
use mathlib.Core.List.{List, tail}
use lib.Dec.{eqb}
use Rattle.rules.specs.Names.{STATION}
use Prim.Native.Nat.{ℕ}
use native.Mathlib.Omega.{arith}
use lib.ListN.{length}
use Rattle.rules.specs.Records.{Record, records, record_at, record_count}
use Rattle.rules.specs.Shape.{well_shaped}
use Rattle.rules.specs.Check.{station_count}
use Rattle.rules.specs.Trees.{Statements, stations_of, initial_part, parts_of, leading_sets}
use Rattle.laws.proofs.Counts.{tally_values}
use Rattle.reading.specs.Reading.{flat_file, Sets, Stations}
use Rattle.reading.specs.Accepted.{Accepted, Reads}
use Rattle.reading.proofs.Whole.{Whole, whole}
use Rattle.reading.proofs.Back.{back_file, leading_file}
use Rattle.reading.proofs.Counted.{counted, stations_in}
use Rattle.reading.proofs.Passed.{file_bare, kinds_values}

module _ (file : List ℕ) where
  whole_file : Accepted file → Whole (records file)
  unfolding well_shaped
  whole_file e =
      let shape = ap well_shaped (kinds_values (record_at file) (record_count file)) ∙ e.shape in
      whole (records file) (file_bare file e) shape

  -- whatever reading of a file there is, it is this one
  pub reading_only : (initial : List Record) (stations : List Statements) → Sets initial → Stations stations
      → flat_file initial stations ≡ records file → (initial ≡ initial_part file) × (stations ≡ stations_of file)
  unfolding initial_part stations_of
  reading_only initial stations p q e =
      (sym (leading_file stations p) ∙ ap leading_sets e, sym (back_file p q) ∙ ap (λ (rs : List Record). tail (parts_of rs)) e)

  -- an accepted file has as many stations as STATION records
  pub stations_counted : Accepted file → length (stations_of file) ≡ station_count file
  unfolding stations_of station_count
  stations_counted e =
      let w = whole_file e in
      sym (counted w.sets w.stations) ∙ ap stations_in w.same ∙ sym (tally_values (λ (r : Record). eqb r.kind STATION) (record_at file) (record_count file))

  -- and its initial part and stations are a reading of it
  pub reading_is : Accepted file → Reads file
  unfolding initial_part stations_of
  reading_is e =
      let w = whole_file e in
      let n = stations_counted e in
      let high = e.few_stations in
      record { same = w.same; sets = w.sets; stations = w.stations; one_at_least = w.one_at_least; eight_at_most = omega arith }
