-- What there is to say of the list that an accepted file is built into. These are definitions.
use Rattle.std.specs.Prelude.{ℕ, ◌+◌, ◌*◌, ◌≤◌, ◌<◌, ◌≡◌, Bool, true, List, [], ◌∷◌, length, get_or}
use Rattle.rules.specs.Words.{among, tally}
use Rattle.rules.specs.Names.{SKIP, SET, IF, WHILE, AWAIT}
use Rattle.rules.specs.Records.{Record, record_at, record_count, list_record_at, list_count}
use Rattle.rules.specs.Trees.{stations_of, initial_part}
use Rattle.rules.specs.Build.{list_records, bytes_of}
use Rattle.rules.specs.List.{stations, initials, sound_list}
use Rattle.laws.specs.Number.{number_of}
use Rattle.reading.specs.Reading.{flat_stations}
use Rattle.built.specs.Targets.{blank}

-- the bytes of a file's list
abbrev pub built : List ℕ → List ℕ
built file = bytes_of (list_records file)

-- "A list is sound when …"
abbrev pub Sound : List ℕ → Type 0
Sound file = sound_list (built file) ≡ true

-- the parts of the list are the file's, and its bytes spell the file's list records
pub record Parted (file : List ℕ) : Type 0 where
  pub stations_are : stations (built file) ≡ length (stations_of file)
  pub initials_are : initials (built file) ≡ length (initial_part file)
  pub count_is : list_count (built file) ≡ length (list_records file)
  pub records_are : (p : ℕ) → p < length (list_records file) → list_record_at (built file) p ≡ get_or (list_records file) p blank

-- a SKIP, SET, IF, WHILE or AWAIT; and how many of the records are
abbrev pub is_step : ℕ → Bool
is_step kind = among kind (SKIP ∷ SET ∷ IF ∷ WHILE ∷ AWAIT ∷ [])

abbrev pub steps_in : List Record → ℕ
steps_in = number_of (λ (r : Record). is_step r.kind)

-- "Records of 16 bytes": "With n stations the list has 2n records, plus the initial part, plus all SKIP, SET, IF, WHILE and AWAIT records"
abbrev pub Long : List ℕ → Type 0
Long file =
    length (built file)
    ≡ 16 * (2 * length (stations_of file) + length (initial_part file) + steps_in (flat_stations (stations_of file)))

-- the same, counted in the file, where the initial part is SET records among the others
abbrev pub Counted : List ℕ → Type 0
Counted file =
    length (list_records file)
    ≡ 2 * length (stations_of file) + tally (λ i. is_step (record_at file i).kind) (record_count file)

-- "at most 1,032"
abbrev pub Most : List ℕ → Type 0
Most file = length (list_records file) ≤ 1032
