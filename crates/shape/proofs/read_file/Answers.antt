-- `shape::read_file` meets its contract. The loop's invariant: the records before the place are the initial part, and the
-- shape is found from the place on. Assumes nothing.
use Rattle.std.specs.Prelude.{Err}
use mathlib.Core.Path.{◌≡◌, sym, ap, ◌∙◌}
use mathlib.Core.Bool.{true, false}
use mathlib.Core.Logic.{⊎_elim}
use Prim.Native.Nat.{◌+◌, ◌-◌, ◌<◌}
use native.Mathlib.Omega.{arith}
use Rattle.rules.specs.Records.{record_count}
use Rattle.rules.specs.Check.{kinds}
use Rattle.deep.specs.declared.Read.{Read}
use Rattle.deep.specs.declared.Read.TheVariants.{Closed, Wrong, Short}
use Rattle.shape.specs.File.{shape_of}
use Rattle.deep.proofs.Nested.{Within}
use Rattle.deep.proofs.Turn.{within_part}
use Rattle.shape.proofs.Walk.{onward, shaped}
use Rattle.shape.proofs.File.{initial_start, initial_end, initial_on, initial_off, initial_station}
use Rattle.shape.proofs.read_file.Goals as goal
use Rattle.shape.proofs.read_file.Goals.{After-read_stations}

place_within : (c : After-read_stations) (v : Read) → c.read_stations.result ≡ v
    → Within v (record_count c.args.file.now - (c.loop-at.at + 1))
place_within c v is = within_part c.args.file.now _ _ _ c.loop-at-test.true c.read_stations.ensures v is

found : (c : After-read_stations) (v : Read) → c.read_stations.result ≡ v
    → shape_of (kinds c.args.file.now)
    ≡ onward (c.loop-at.at + 1) (shaped v (record_count c.args.file.now - (c.loop-at.at + 1)))
found c v is =
    initial_station c.args.file.now _ c.loop-at-test.true c.loop-at.invariant c.in-1.is _ c.read_stations.ensures v is

pub loop-at-init : goal.loop-at-init
loop-at-init c = initial_start _

-- a wrong place, and one that would close the station, are places within the rest, and break the file there
pub overflow_add-result : goal.overflow_add-result
overflow_add-result c =
    let rest = place_within (goal.at.overflow_add-result c).After-read_stations in
    let h : c.in-Closed.place < record_count c.args.file.now - (c.loop-at.at + 1) = ⊎_elim (rest (Closed _)) (rest (Wrong _)) c.in-Closed.is in
    omega arith

pub returns-in-Closed : goal.returns-in-Closed
returns-in-Closed c =
    let rest = found (goal.at.returns-in-Closed c).After-read_stations in
    sym (⊎_elim (rest (Closed c.in-Closed.place)) (rest (Wrong c.in-Closed.place)) c.in-Closed.is)

pub returns-in-Short-true : goal.returns-in-Short-true
returns-in-Short-true c =
    let is = c.in-Short-true.is ∙ ap Short c.in-Short-true.field-0-test in
    sym (found (goal.at.returns-in-Short-true c).After-read_stations (Short true) is)

pub returns-in-Short-false : goal.returns-in-Short-false
returns-in-Short-false c =
    let is = c.in-Short-false.is ∙ ap Short c.in-Short-false.field-0-test in
    sym (found (goal.at.returns-in-Short-false c).After-read_stations (Short false) is ∙ ap Err (omega arith))

pub returns-in_default : goal.returns-in_default
returns-in_default c =
    sym (initial_off _ _ c.loop-at-test.true c.loop-at.invariant (λ station. omega arith) (λ set. omega arith))

pub loop-at-preserved : goal.loop-at-preserved
loop-at-preserved c = initial_on _ _ c.loop-at-test.true c.loop-at.invariant c.in-3.is

pub returns : goal.returns
returns c = sym (initial_end _ _ c.loop-at.invariant c.loop-at.auto.at-end c.loop-at-test.false)
