-- In the list of an accepted file, each outside record and what it stands for match. Assumes nothing.
use mathlib.Core.Path.{◌≡◌, subst}
use mathlib.Core.Bool.{true}
use mathlib.Core.List.{List}
use Prim.Native.Nat.{ℕ, ◌+◌, ◌-◌, ◌≤◌, ◌<◌}
use native.Mathlib.Nat.{zero-add}
use native.Mathlib.Omega.{arith}
use lib.ListN.{length, get_or}
use Rattle.rules.specs.Records.{list_record_at, list_count}
use Rattle.rules.specs.Trees.{stations_of, initial_part}
use Rattle.rules.specs.Build.{bodies, list_records}
use Rattle.rules.specs.List.{outside}
use Rattle.reading.specs.Accepted.{Accepted}
use Rattle.reading.proofs.One.{reading_is}
use Rattle.built.specs.Targets.{blank}
use Rattle.built.specs.Built.{built, Parted}
use Rattle.built.proofs.Along.{Along, along_at, along_all}
use Rattle.built.proofs.Lengths.{length_bodies, length_list}
use Rattle.built.proofs.Standing.{parts_apart}
use Rattle.built.proofs.Whole.{built_parts}
use Rattle.laws.proofs.Sound.{at_means}
use Rattle.language.specs.Rests.{stands_for}
use Rattle.language.proofs.Bodies.{Spelt}
use Rattle.language.proofs.Matched.{Matches, RightAt}
use Rattle.language.proofs.Stations.{stations_match}

-- an outside record of station j, at the place p of a file's list
pub record Outside (file : List ℕ) (j p : ℕ) : Type 0 where
  pub late : length (stations_of file) + length (initial_part file) ≤ p
  pub within : p < list_count (built file)
  pub outer : (list_record_at (built file) p).inside ≡ 0
  pub of_station : (list_record_at (built file) p).station ≡ j

module _ (file : List ℕ) (bytes : (i : ℕ) → get_or file i 0 < 256) (accepted : Accepted file) where
  pub parted : Parted file
  parted = built_parts file bytes accepted

  -- the records stand where the list's bytes spell them
  pub spelt : Along (Spelt (built file)) 0 (list_records file)
  spelt = along_all (Spelt (built file)) 0 (list_records file) blank (λ i l. rw zero-add (parted.records_are i l))

  pub outside_is : (j p : ℕ) → outside (built file) j p ≡ true → Outside file j p
  outside_is j p o =
      let here = at_means (built file) 0 j p o in
      record {
        late = omega (arith, here.from, parted.stations_are, parted.initials_are);
        within = here.within;
        outer = here.byte_is;
        of_station = here.of_station;
      }

  all_match : Along (RightAt (built file) (stands_for file)) (length (stations_of file) + length (initial_part file))
      (bodies 0 (length (stations_of file) + length (initial_part file)) (stations_of file))
  all_match =
      let parts = parts_apart (Spelt (built file)) (initial_part file) (stations_of file) spelt in
      let count = length_list (initial_part file) (stations_of file) in
      stations_match (built file) (stands_for file) (reading_is file accepted).stations 0 _ (omega (arith, parted.count_is))
      (λ i q. rw zero-add) parts.2

  pub outside_match : (j p : ℕ) → outside (built file) j p ≡ true
      → Matches (built file) (stands_for file j) (list_record_at (built file) p) (stands_for file j p)
  outside_match j p o =
      let here = outside_is j p o in
      let first : ℕ = length (stations_of file) + length (initial_part file) in
      let count = length_list (initial_part file) (stations_of file) in
      let long = length_bodies 0 first (stations_of file) in
      let e : first + (p - first) ≡ p = omega (arith, here.late) in
      let at = along_at (RightAt (built file) (stands_for file)) first (bodies 0 first (stations_of file)) all_match (p - first) blank
      (omega (arith, here.within, here.late, parted.count_is)) in
      subst (λ (i : ℕ). Matches (built file) (stands_for file i) (list_record_at (built file) p) (stands_for file i p)) here.of_station
      ((rw e at at) here.outer)
