-- What is known while a list is laid out, one record of the file at a time, from the last to the first, and the record of the list that is
-- laid for it. These are definitions.
use Rattle.std.specs.Prelude.{ℕ, ◌+◌, ◌-◌, Bool, ◌&&◌, ◌||◌, not, List, [], ◌∷◌, eqb, ltb, get_or, set, replicate, if◌then◌else◌}
use Rattle.rules.specs.Words.{among}
use Rattle.rules.specs.Names.{STATION, SKIP, SET, IF, ELSE, FI, WHILE, OD, AWAIT, END, STOP, max_depth, max_stations, no_station}
use Rattle.rules.specs.Records.{Record, ListRecord}
use Rattle.rules.specs.Build.{bare, listed}

-- what is known: the place of the record laid last and the step that comes next, the station, 1 in a body, the loops whose OD is still
-- to be read and the parts that are open; by part, what comes after its statement and where its second branch starts; by station, its start
pub record Laying : Type 0 where
  pub place : ℕ
  pub next : ℕ
  pub station : ℕ
  pub inside : ℕ
  pub loops : ℕ
  pub depth : ℕ
  pub after : List ℕ
  pub second : List ℕ
  pub starts : List ℕ

-- before the last record of the file is read: a list of so many records, stations and loops
abbrev pub before_last : ℕ → ℕ → ℕ → Laying
before_last place stations loops =
    record {
      place = place;
      next = 0;
      station = stations;
      inside = 0;
      loops = loops;
      depth = 0;
      after = replicate (max_depth + 1) 0;
      second = replicate (max_depth + 1) 0;
      starts = replicate max_stations 0;
    }

-- a step is laid, and is what comes next
unfoldable pub stepped : Laying → Laying
stepped s =
    record {
      place = s.place - 1;
      next = s.place - 1;
      station = s.station;
      inside = s.inside;
      loops = s.loops;
      depth = s.depth;
      after = s.after;
      second = s.second;
      starts = s.starts;
    }

-- a closing record: a part opens, and `next` comes after its last step; `inside` and the loops to come may change
unfoldable pub pushed : ℕ → ℕ → ℕ → Laying → Laying
pushed next inside loops s =
    record {
      place = s.place;
      next = next;
      station = s.station;
      inside = inside;
      loops = loops;
      depth = (if ltb s.depth max_depth then s.depth + 1 else s.depth);
      after = (if ltb s.depth max_depth then set s.after (s.depth + 1) s.next else s.after);
      second = s.second;
      starts = s.starts;
    }

-- ELSE: the second branch was read, and what comes after it comes after the first branch too
unfoldable pub switched : Laying → Laying
switched s =
    record {
      place = s.place;
      next = get_or s.after s.depth 0;
      station = s.station;
      inside = s.inside;
      loops = s.loops;
      depth = s.depth;
      after = s.after;
      second = set s.second s.depth s.next;
      starts = s.starts;
    }

-- an opening record is laid, and is what comes next; its part is no longer open
unfoldable pub popped : ℕ → Laying → Laying
popped inside s =
    record {
      place = s.place - 1;
      next = s.place - 1;
      station = s.station;
      inside = inside;
      loops = s.loops;
      depth = s.depth - 1;
      after = s.after;
      second = s.second;
      starts = s.starts;
    }

-- STATION, or the end of the file: the station that was read starts here, and the STOP of the one before is laid, if there is one
unfoldable pub turned : Laying → Laying
turned s =
    record {
      place = (if eqb s.station 0 then s.place else s.place - 1);
      next = (if eqb s.station 0 then s.place else s.place - 1);
      station = (if eqb s.station 0 then no_station else s.station - 1);
      inside = s.inside;
      loops = s.loops;
      depth = s.depth;
      after = s.after;
      second = s.second;
      starts = set s.starts s.station s.place;
    }

-- the layout after a record of this kind; the places of WHILE records stand in the order of their ODs
unfoldable pub after_kind : List ℕ → ℕ → Laying → Laying
after_kind loops kind s =
    if among kind (SKIP ∷ SET ∷ []) then stepped s
    else if among kind (IF ∷ WHILE ∷ []) then popped s.inside s
    else if eqb kind AWAIT then popped 0 s
    else if eqb kind FI then pushed s.next s.inside s.loops s
    else if eqb kind ELSE then switched s
    else if eqb kind OD then pushed (get_or loops (s.loops - 1) 0) s.inside (s.loops - 1) s
    else if eqb kind END then pushed 0 1 s.loops s
    else turned s

-- a record of this kind has a record of the list laid for it
unfoldable pub lays : ℕ → Laying → Bool
lays kind s = among kind (SKIP ∷ SET ∷ IF ∷ WHILE ∷ AWAIT ∷ []) || eqb kind STATION && not (eqb s.station 0)

-- the record of the list laid for a record of the file
unfoldable pub record_for : Record → Laying → ListRecord
record_for r s =
    if eqb r.kind STATION then listed (bare STOP 0) (s.station - 1) 0 0 0
    else if eqb s.station no_station then listed r no_station 0 0 0
    else if eqb r.kind IF then listed r s.station s.inside s.next (get_or s.second s.depth 0)
    else if eqb r.kind WHILE then listed r s.station s.inside s.next (get_or s.after s.depth 0)
    else if eqb r.kind AWAIT then listed r s.station 0 s.place (get_or s.after s.depth 0)
    else listed r s.station s.inside s.next 0
