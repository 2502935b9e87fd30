-- What the code keeps while a list is laid out, seen as what is known. These are definitions.
use Rattle.std.specs.Prelude.{map}
use Rattle.layout.specs.Layout as known
use Rattle.layout.specs.declared.Laying.{Laying}

abbrev pub as_laying : Laying → known.Laying
as_laying s =
    record {
      place = s.place;
      next = s.next;
      station = s.station;
      inside = s.inside;
      loops = s.loops;
      depth = s.depth;
      after = map (λ part. part.after) s.parts;
      second = map (λ part. part.second) s.parts;
      starts = s.starts;
    }
