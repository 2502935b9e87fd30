-- A file that passes the five tests, and what there is to say of it. These are definitions.
use Rattle.std.specs.Prelude.{ℕ, ◌≤◌, ◌≡◌, true, false, List, length}
use Rattle.rules.specs.Names.{max_stations}
use Rattle.rules.specs.Records.{record_count, records}
use Rattle.rules.specs.Shape.{well_shaped}
use Rattle.rules.specs.Check.{kinds, wrong_length, field_place, station_count, depth_place}
use Rattle.rules.specs.Trees.{initial_part, stations_of}
use Rattle.reading.specs.Reading.{flat_file, Sets, Stations}

-- none of tests 1 to 5 refuses it, which is when check answers 0 (`accepted_is`)
pub record Accepted (file : List ℕ) : Type 0 where
  pub size : wrong_length file ≡ false
  pub fields : record_count file ≤ field_place file
  pub some_station : 1 ≤ station_count file
  pub few_stations : station_count file ≤ max_stations
  pub shape : well_shaped (kinds file) ≡ true
  pub depth : record_count file ≤ depth_place file

-- its initial part and its stations are a reading of it: their records, in order, are the file's
pub record Reads (file : List ℕ) : Type 0 where
  pub same : flat_file (initial_part file) (stations_of file) ≡ records file
  pub sets : Sets (initial_part file)
  pub stations : Stations (stations_of file)
  pub one_at_least : 1 ≤ length (stations_of file)
  pub eight_at_most : length (stations_of file) ≤ max_stations
