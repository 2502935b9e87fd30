-- `keeping::keep` meets its contract. Assumes nothing.
use Prim.Native.Nat.{◌+◌, ◌-◌, ◌/◌}
use mathlib.Core.Path.{◌≡◌, ◌∙◌}
use native.Mathlib.Omega.{arith}
use lib.Dec.{leb}
use lib.ListN.{length, length-drop}
use lib.Seq.{length-take-le}
use borrow.Author.Tests.{ne_eqb, eq-eqb, le-leb, lt-leb}
use Rattle.rules.specs.Names.{kept_every, kept_length}
use Rattle.rules.specs.Kept.{kept_offset}
use Rattle.laws.proofs.Choice.{both, not_both_right}
use Rattle.state.specs.View.{as_state}
use Rattle.keeping.specs.Place.{has_place}
use Rattle.keeping.proofs.Put.{unkept, place_kept}
use Rattle.keeping.proofs.keep.Goals as goal
use Rattle.keeping.proofs.keep.Goals.{then-state-eq0-via-then-state-eq0, then-state-eq0-via-else-state-eq0+then-state-ne0}

pub returns-then-state-eq0 : goal.returns-then-state-eq0
returns-then-state-eq0 c =
    let s = c.args.state.now in
    elim c.then-state-eq0.branch [
      | then-state-eq0-via-then-state-eq0 w ↦ rw w.if-state-eq0.true
      | then-state-eq0-via-else-state-eq0+then-state-ne0 w ↦ unkept (has_place s.m c.args.kept.now) c.args.kept.now _ (ne_eqb _ 0 w.if-state-ne0.true)
    ]

pub overflow_sub-at : goal.overflow_sub-at
overflow_sub-at c = omega (arith, c.if-state-ne0.false)

pub returns-then-end-kept : goal.returns-then-end-kept
returns-then-end-kept c =
    let kept = c.args.kept.now in
    let s = c.args.state.now in
    let put = c.put_state in
    let at = kept_offset (s.m / kept_every) in
    let there = both (le-leb 1 s.m (omega (arith, c.if-state-eq0.false))) (le-leb (at + kept_length) (length kept) c.if-end-kept.true) in
    let long : length put.new.place ≡ at + kept_length - at = put.auto.place ∙ length-take-le _ _ (simp length-drop (omega arith)) in
    rw there (place_kept kept put.new.place (as_state s) _ (eq-eqb _ 0 c.if-state-ne0.false) long put.ensures)

pub returns-else-end-kept : goal.returns-else-end-kept
returns-else-end-kept c =
    let m = c.args.state.now.m in
    rw (not_both_right (leb 1 m) _ (lt-leb (kept_offset (m / kept_every) + kept_length) (length c.args.kept.now) c.if-end-kept.false))
