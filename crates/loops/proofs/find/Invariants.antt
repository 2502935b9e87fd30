-- `loops::find` meets its contract: after n records what is known is what the first n records of the file come to. Past the
-- 512th OD there is no room, and a store there would change nothing.
-- Assumes nothing.
use mathlib.Core.Path.{◌≡◌}
use lib.ListN.{length}
use Rattle.rules.specs.Words.{values}
use Rattle.rules.specs.Records.{record_at}
use Rattle.loops.specs.Loops.{max_loops, Sought, seek_records, nothing_sought}
use Rattle.loops.proofs.Left.{Left}
use Rattle.loops.proofs.find.Given as goal

abbrev pub invariant-loop-record : goal.invariant-loop-record
invariant-loop-record l =
    record {
      room : length l.places ≡ max_loops;
      size : l.record-iterator.size ≡ 8;
      left : Left l.file (length l.yielded) l.record-iterator.rest.now;
      so_far : ◌≡◌ {A = Sought} (record { seeking = l.s; places = l.places })
          (seek_records (values (record_at l.file) (length l.yielded)) (nothing_sought l.place));
    }
