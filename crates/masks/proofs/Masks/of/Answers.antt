-- `masks::Masks::of` meets its contract, by the loop's invariant and by what a station more adds. Assumes nothing.
use mathlib.Core.Path.{◌≡◌, refl, ◌∙◌}
use Prim.Native.Nat.{ℕ, ◌+◌, ◌-◌, ◌≤◌, ◌<◌, min}
use native.Mathlib.Nat.{min-le_right}
use native.Mathlib.Omega.{arith}
use Rattle.rules.specs.Names.{max_stations}
use Rattle.stations.proofs.Known.{ready_known}
use Rattle.touches.specs.Touched.{touched_by}
use Rattle.masks.specs.Masks.{state_of, masks_from}
use Rattle.masks.proofs.Stations.{turn_known, gathered_none, gathered_more, room}
use Rattle.masks.proofs.Masks.of.Goals as goal
use Rattle.masks.proofs.Masks.of.Goals.{then-ready, else-ready}

-- no more stations are known than there are places
few : (n : ℕ) → min n max_stations ≤ max_stations
few n = min-le_right n max_stations

pub loop-j-init : goal.loop-j-init
loop-j-init c =
    let s = c.args.state.now in
    rw c.min-j.ensures (gathered_none c.args.list.now (state_of s.vars s.positions s.priorities s.n))

pub with_station-masks-requires : goal.with_station-masks-requires
with_station-masks-requires c =
    let s = c.args.state.now in
    let back : c.loop-j.j - 1 + 1 ≡ c.loop-j.j = omega arith in
    rw (c.loop-j.invariant, ← back) (room _ (state_of s.vars s.positions s.priorities s.n) (c.loop-j.j - 1) (few s.n))

pub loop-j-preserved : goal.loop-j-preserved
loop-j-preserved c =
    let list = c.args.list.now in
    let given = c.args.state.now in
    let s = state_of given.vars given.positions given.priorities given.n in
    let j = c.loop-j.j - 1 in
    let back : j + 1 ≡ c.loop-j.j = omega arith in
    let here : j < s.n = omega (arith, c.loop-j.auto.j, c.min-j.ensures) in
    -- the lowest was sought where it is ready
    let in_turn =
    turn_known list s {turn = c.if-ready.in_turn} given.n j refl c.ready-all.ensures
    (elim c.if-ready.branch [
      | then-ready w ↦ rw (w.if-ready.true, w.in_turn-is) w.lowest_of-in_turn.ensures
      | else-ready w ↦ rw (w.in_turn-is, w.if-ready.false)
    ]) in
    let so_far : c.loop-j.masks ≡ masks_from list s (j + 1) = rw back c.loop-j.invariant in
    gathered_more list s c.with_station-masks.ensures here so_far (rw c.at-e.ensures at c.at-case.ensures) in_turn
    (c.of.ensures ∙ (λ i. touched_by list (c.at-e.ensures i) (ready_known list s (few given.n) c.ready-all.ensures j i)))
