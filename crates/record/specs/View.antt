-- The records of the code, seen as the records of the rules. These are definitions.
use Rattle.std.specs.Prelude.{ℕ, ◌+◌, List, get_or}
use Rattle.rules.specs.Records as rules
use Rattle.record.specs.declared.Record.{Record}
use Rattle.record.specs.declared.ListRecord.{ListRecord}
use Rattle.record.specs.declared.Pick.{Pick}

abbrev pub as_record : Record → rules.Record
as_record r = record { kind = r.kind; a = r.a; b = r.b; op = r.op; k = r.k }

abbrev pub as_list_record : ListRecord → rules.ListRecord
as_list_record e =
    record {
      own = as_record e.own;
      station = e.station;
      inside = e.inside;
      t1 = e.t1;
      t2 = e.t2;
      spare = e.spare;
    }

-- the list record whose bytes start at an offset
abbrev pub list_record_from : List ℕ → ℕ → rules.ListRecord
list_record_from bytes at =
    record {
      own = rules.record_from bytes at;
      station = get_or bytes (at + 8) 0;
      inside = get_or bytes (at + 9) 0;
      t1 = rules.half bytes (at + 10);
      t2 = rules.half bytes (at + 12);
      spare = rules.half bytes (at + 14);
    }

abbrev pub as_pick : Pick → rules.Pick
as_pick p = record { station = p.station; reset = p.reset }
