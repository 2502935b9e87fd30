-- The list of an accepted file is as long as the document says, and it is sound. Assumes nothing.
use mathlib.Core.Path.{sym, ap, ◌∙◌}
use mathlib.Core.Bool.{◌||◌, not}
use mathlib.Core.List.{List}
use Prim.Native.Nat.{ℕ, ◌+◌, ◌*◌, ◌%◌, ◌≤◌, ◌<◌}
use native.Mathlib.Omega.{arith}
use lib.Dec.{eqb, ltb}
use lib.ListN.{length, get_or, length-append}
use borrow.Author.Tests.{ltb-false, not-false}
use Rattle.rules.specs.Names.{max_records}
use Rattle.rules.specs.Records.{record_from, record_at, record_count}
use Rattle.rules.specs.Fields.{fields_right}
use Rattle.rules.specs.Trees.{stations_of, initial_part}
use Rattle.rules.specs.Build.{list_records}
use Rattle.rules.specs.Check.{wrong_length, field_place}
use Rattle.laws.proofs.Choice.{neither}
use Rattle.laws.proofs.Places.{first_before, length_values}
use Rattle.reading.specs.Reading.{flat_stations}
use Rattle.reading.specs.Accepted.{Accepted, Reads}
use Rattle.reading.proofs.One.{reading_is}
use Rattle.built.specs.Built.{Sound, Parted, steps_in, Long, Counted, Most}
use Rattle.built.proofs.Along.{Along, all_values}
use Rattle.built.proofs.Lengths.{extent_within, length_list, steps_stations, steps_file, tally_steps}
use Rattle.built.proofs.Bytes.{length_bytes_of, count_bytes_of}
use Rattle.built.proofs.Right.{Good, Right}
use Rattle.built.proofs.Stations.{right_list}
use Rattle.built.proofs.Sound.{sound, stations_are, initials_are, at}

module _ (file : List ℕ) (accepted : Accepted file) where
  reads : Reads file
  reads = reading_is file accepted

  -- an accepted file has at most 1,024 records
  pub short_file : record_count file ≤ max_records
  unfolding wrong_length
  short_file =
      let a = (neither (not (eqb (length file % 8) 0) || eqb (length file) 0) (ltb (8 * max_records) (length file)) accepted.size).1 in
      let b = ltb-false (8 * max_records) (length file) a in
      omega arith

  pub built_most : Most file
  built_most =
      let a = extent_within (stations_of file) in
      let b = length_list (initial_part file) (stations_of file) in
      let c = length-append (initial_part file) (flat_stations (stations_of file)) in
      let d = ap length reads.same ∙ length_values (record_at file) (record_count file) in
      omega (arith, short_file, reads.eight_at_most)

  pub built_length : Long file
  built_length =
      let a = length_bytes_of (list_records file) in
      let b = length_list (initial_part file) (stations_of file) in
      let c = steps_stations reads.stations in
      omega arith

  pub built_count : Counted file
  built_count =
      let a = tally_steps (record_at file) (record_count file) ∙ ap steps_in (sym reads.same) in
      let b = length_list (initial_part file) (stations_of file) in
      let c = steps_file reads.sets reads.stations in
      omega arith

  -- a station has a record at least, its STOP
  more : length (stations_of file) + length (initial_part file) < length (list_records file)
  more =
      let a = steps_stations reads.stations in
      let b = length_list (initial_part file) (stations_of file) in
      omega (arith, reads.one_at_least)

module _ (file : List ℕ) (bytes : (i : ℕ) → get_or file i 0 < 256) (accepted : Accepted file) where
  abbrev n : ℕ
  n = length (stations_of file)

  abbrev m : ℕ
  m = length (initial_part file)

  good : (i : ℕ) → i < record_count file → Good (record_at file i)
  unfolding record_from field_place
  good i l =
      let at : ℕ = 8 * i + 4 in
      let none = accepted.fields in
      let right = first_before (λ j. not (fields_right (record_at file j))) (record_count file) i (omega arith) in
      record { fields = not-false _ right; k = omega (arith, bytes at, bytes (at + 1), bytes (at + 2), bytes (at + 3)) }

  right : Along (Right (list_records file) n m) 0 (list_records file)
  right =
      let r = reads file accepted in
      right_list (initial_part file) (stations_of file) r.sets r.stations (rw r.same (all_values Good (record_at file) (record_count file) good))

  pub built_sound : Sound file
  built_sound =
      let r = reads file accepted in
      sound (list_records file) n m right r.one_at_least r.eight_at_most (more file accepted) (built_most file accepted)

  pub built_parts : Parted file
  built_parts =
      let es = list_records file in
      let r = reads file accepted in
      let k = more file accepted in
      let l = built_most file accepted in
      record {
        stations_are = stations_are es n m right r.one_at_least r.eight_at_most k l;
        initials_are = initials_are es n m right r.one_at_least r.eight_at_most k l;
        count_is = count_bytes_of es;
        records_are = at es n m right r.one_at_least r.eight_at_most k l;
      }
