-- Records, as their bytes spell them. Past the end of the bytes everything is zero. These are definitions.
use Rattle.std.specs.Prelude.{ℕ, ◌+◌, ◌*◌, ◌/◌, ◌%◌, List, [], ◌∷◌, ◌++◌, length, get_or}
use Rattle.rules.specs.Words.{values}

-- two bytes, low byte first
abbrev pub half : List ℕ → ℕ → ℕ
half bytes at = get_or bytes at 0 + 256 * get_or bytes (at + 1) 0

-- "four bytes, low byte first"
abbrev pub word : List ℕ → ℕ → ℕ
word bytes at =
    get_or bytes at 0 + 256 * get_or bytes (at + 1) 0 + 65536 * get_or bytes (at + 2) 0 + 16777216 * get_or bytes (at + 3) 0

abbrev pub half_bytes : ℕ → List ℕ
half_bytes x = x % 256 ∷ x / 256 % 256 ∷ []

abbrev pub word_bytes : ℕ → List ℕ
word_bytes x = x % 256 ∷ x / 256 % 256 ∷ x / 65536 % 256 ∷ x / 16777216 % 256 ∷ []

-- "Records of 8 bytes, no header: kind, a, b, op, then k"
pub record Record : Type 0 where
  pub kind : ℕ
  pub a : ℕ
  pub b : ℕ
  pub op : ℕ
  pub k : ℕ

-- the record whose bytes start at an offset
unfoldable pub record_from : List ℕ → ℕ → Record
record_from bytes at =
    record {
      kind = get_or bytes at 0;
      a = get_or bytes (at + 1) 0;
      b = get_or bytes (at + 2) 0;
      op = get_or bytes (at + 3) 0;
      k = word bytes (at + 4);
    }

-- record number i of a written sequence
abbrev pub record_at : List ℕ → ℕ → Record
record_at file i = record_from file (8 * i)

-- the number of a file's whole records
abbrev pub record_count : List ℕ → ℕ
record_count file = length file / 8

-- a file's records, in order
abbrev pub records : List ℕ → List Record
records file = values (record_at file) (record_count file)

-- "Records of 16 bytes, no header: bytes 0 to 7 as above; 8 the station; 9 is 1 inside an AWAIT body"; then "two targets t1 and t2";
-- "14-15 zero", here spare
pub record ListRecord : Type 0 where
  pub own : Record
  pub station : ℕ
  pub inside : ℕ
  pub t1 : ℕ
  pub t2 : ℕ
  pub spare : ℕ

-- record number p of a built-in list
unfoldable pub list_record_at : List ℕ → ℕ → ListRecord
list_record_at list p =
    record {
      own = record_from list (16 * p);
      station = get_or list (16 * p + 8) 0;
      inside = get_or list (16 * p + 9) 0;
      t1 = half list (16 * p + 10);
      t2 = half list (16 * p + 12);
      spare = half list (16 * p + 14);
    }

-- the number of a list's whole records
abbrev pub list_count : List ℕ → ℕ
list_count list = length list / 16

-- a list record's sixteen bytes
abbrev pub list_record_bytes : ListRecord → List ℕ
list_record_bytes e =
    (e.own.kind ∷ e.own.a ∷ e.own.b ∷ e.own.op ∷ word_bytes e.own.k)
    ++ (e.station ∷ e.inside ∷ half_bytes e.t1)
    ++ half_bytes e.t2
    ++ half_bytes e.spare

-- the log and the picks: "two-byte records, station and reset, no header"
pub record Pick : Type 0 where
  pub station : ℕ
  pub reset : ℕ

-- record number i of a log or of picks
abbrev pub pick_at : List ℕ → ℕ → Pick
pick_at bytes i = record { station = get_or bytes (2 * i) 0; reset = get_or bytes (2 * i + 1) 0 }

abbrev pub pick_bytes : Pick → List ℕ
pick_bytes p = p.station ∷ p.reset ∷ []
