-- The layout of an accepted file, with the room for it, puts the rules' list into the buffer. Assumes nothing.
use mathlib.Core.Path.{◌≡◌, ap, ◌∙◌}
use mathlib.Core.List.{List, map}
use Prim.Native.Nat.{ℕ, ◌+◌, ◌*◌, ◌-◌, ◌≤◌, ◌<◌}
use native.Mathlib.Omega.{arith}
use lib.ListN.{length, length-append}
use Rattle.rules.specs.Words.{written}
use Rattle.rules.specs.Records.{Record, record_at, record_count}
use Rattle.rules.specs.Trees.{Statements, initial_part, stations_of}
use Rattle.rules.specs.Build.{list_records, bytes_of}
use Rattle.rules.specs.Shape.{too_deep_at}
use Rattle.rules.specs.Check.{kinds, depth_place}
use Rattle.laws.proofs.Places.{length_values}
use Rattle.reading.specs.Reading.{flat_stations, flat_file}
use Rattle.reading.specs.Accepted.{Accepted, Reads}
use Rattle.reading.proofs.Passed.{kinds_values}
use Rattle.reading.proofs.One.{reading_is}
use Rattle.built.proofs.Whole.{short_file}
use Rattle.built.proofs.Lengths.{extent, extent_within, length_list}
use Rattle.loops.specs.Loops.{Sought, seek_records, nothing_sought}
use Rattle.laying.specs.Laid.{laid_out}
use Rattle.build.proofs.Stations.{station_loops, Shallow, begin, whole, laid_all}
use Rattle.build.proofs.Forward.{Passed}
use Rattle.build.proofs.Sought.{seek_file}
use Rattle.build.proofs.Depth.{too_deep_within, deep_file}
use Rattle.build.proofs.Counts.{station_loops_within}

module _ (file : List ℕ) (accepted : Accepted file) where
  abbrev initial : List Record
  initial = initial_part file

  abbrev stations : List Statements
  stations = stations_of file

  reads : Reads file
  reads = reading_is file accepted

  flat_length : length (flat_file initial stations) ≡ record_count file
  flat_length = ap length reads.same ∙ length_values (record_at file) (record_count file)

  -- no record is the seventeenth open
  never : too_deep_at 0 (map (λ (r : Record). r.kind) (flat_file initial stations)) ≡ length (flat_file initial stations)
  unfolding depth_place
  never =
      let a = accepted.depth in
      let b = too_deep_within 0 (kinds file) in
      let c : length (kinds file) ≡ record_count file = length_values (λ i. (record_at file i).kind) (record_count file) in
      let d : depth_place file ≡ record_count file = omega arith in
      rw (reads.same, kinds_values (record_at file) (record_count file), length_values (record_at file) (record_count file)) d

  shallow : Shallow stations
  shallow = deep_file reads.sets reads.stations never

  total : ℕ
  total = length stations + length initial + extent stations

  small : total < 65535
  unfolding total
  small =
      let a = extent_within stations in
      let b : length (flat_file initial stations) ≡ length initial + length (flat_stations stations) = simp length-append in
      omega (arith, short_file file accepted, flat_length, reads.eight_at_most)

  few : length (station_loops (length stations + length initial) stations) ≤ 512
  few =
      let a = station_loops_within (length stations + length initial) stations in
      let b : length (flat_file initial stations) ≡ length initial + length (flat_stations stations) = simp length-append in
      omega (arith, short_file file accepted, flat_length)

  -- the loops, as the first pass finds them
  sought : Sought
  sought = seek_records (flat_file initial stations) (nothing_sought (length stations - 1))

  sought_is : Passed (length initial + extent stations) (station_loops (length stations + length initial) stations) (nothing_sought (length stations - 1)) sought (length stations - 1)
  unfolding sought total
  sought_is = seek_file initial stations reads.sets reads.stations shallow reads.one_at_least small few

  found : sought.seeking.found ≡ length (station_loops (length stations + length initial) stations)
  found = sought_is.found ∙ omega arith

  pub laid_out_is : (buffer : List ℕ) → 16 * length (list_records file) ≤ length buffer
      → laid_out file (length (list_records file)) (length stations) buffer ≡ written buffer 0 (bytes_of (list_records file))
  unfolding laid_out sought begin whole
  laid_out_is buffer room =
      let n = length_list initial stations in
      rw (n, ← reads.same, found)
      (laid_all sought.places initial stations buffer reads.sets reads.stations shallow reads.one_at_least reads.eight_at_most
      sought_is.noted_are (omega arith))
