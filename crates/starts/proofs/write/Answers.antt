-- `starts::write` meets its contract, by the loop's invariant and by what one turn writes. Assumes nothing.
use Prim.Native.Nat.{◌*◌}
use mathlib.Core.Path.{◌≡◌, refl}
use mathlib.Core.Bool.{true}
use native.Mathlib.Omega.{arith}
use lib.Dec.{leb}
use lib.ListN.{length}
use lib.Seq.{take_all}
use borrow.Author.Tests.{le-leb, lt-leb}
use Rattle.rules.specs.Words.{written}
use Rattle.rules.specs.Names.{max_stations}
use Rattle.rules.specs.Start.{start_records}
use Rattle.laws.proofs.Choice.{both, not_both_left, not_both_right}
use Rattle.starts.specs.Room.{room}
use Rattle.starts.proofs.Written.{starts_more}
use Rattle.starts.proofs.write.Goals as goal

pub returns-then-resets-gt-MAX_STATIONS : goal.returns-then-resets-gt-MAX_STATIONS
returns-then-resets-gt-MAX_STATIONS c =
    let a = c.args in
    let none =
    not_both_left _ (leb (2 * length a.resets.now) (length a.log.now))
    (lt-leb (length a.resets.now) max_stations c.if-resets-gt-MAX_STATIONS.true) in
    rw none (refl, refl)

pub returns-then-log-resets : goal.returns-then-log-resets
returns-then-log-resets c =
    let a = c.args in
    let none =
    not_both_right (leb (length a.resets.now) max_stations) _
    (lt-leb (2 * length a.resets.now) (length a.log.now) c.if-log-resets.true) in
    rw none (refl, refl)

pub loop-j-init : goal.loop-j-init
unfolding written start_records
loop-j-init c = refl

pub loop-j-preserved : goal.loop-j-preserved
loop-j-preserved c =
    rw c.loop-j.invariant (starts_more _ _ _ c.loop-j-test.true c.if-log-resets.false)

pub returns : goal.returns
returns c =
    let a = c.args in
    let all : room (length a.resets.now) a.log.now ≡ true =
    both (le-leb (length a.resets.now) max_stations c.if-resets-gt-MAX_STATIONS.false) (le-leb _ (length a.log.now) c.if-log-resets.false) in
    rw all (refl, rw (take_all c.loop-j.j a.resets.now (omega arith)) at c.loop-j.invariant)
