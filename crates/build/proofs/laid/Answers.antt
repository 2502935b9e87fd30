-- `build::laid` meets its contract: where check refuses nothing the file is accepted, so that what is counted is the list's number of
-- records, and what is laid out is the list. Assumes nothing.
use mathlib.Core.Path.{◌≡◌, sym, ◌∙◌}
use Prim.Native.Nat.{◌+◌, ◌*◌, ◌≤◌}
use native.Mathlib.Omega.{arith}
use lib.ListN.{length}
use borrow.Author.Rules.{rules}
use Rattle.rules.specs.Trees.{stations_of}
use Rattle.rules.specs.Build.{list_records}
use Rattle.reading.proofs.One.{stations_counted}
use Rattle.build.proofs.Answer.{accepted_as, build_short, build_done, total_is}
use Rattle.build.proofs.Whole.{laid_out_is}
use Rattle.build.proofs.laid.Goals as goal

pub returns-then-list-count : goal.returns-then-list-count
returns-then-list-count c =
    let file = c.args.file.now in
    let a = accepted_as file (search rules) in
    sym (build_short file a c.args.list.now (omega (arith, total_is file a)))

pub returns : goal.returns
returns c =
    let file = c.args.file.now in
    let list = c.args.list.now in
    let a = accepted_as file (search rules) in
    let n : c.station_count-stations.result ≡ length (stations_of file) = c.station_count-stations.ensures ∙ sym (stations_counted file a) in
    let total : 2 * c.station_count-stations.result + c.step_count.result ≡ length (list_records file) = omega (arith, total_is file a) in
    let room : 16 * length (list_records file) ≤ length list = omega arith in
    let l = rw (total, n) at c.lay_out.ensures in
    rw (total, l, laid_out_is file a list room) (sym (build_done file a list room))
