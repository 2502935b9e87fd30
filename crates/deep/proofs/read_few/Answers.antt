-- `deep::read_few` meets its contract. The loop's invariant: what the slice's records find is found from the place on, in the
-- part as it stands there, with the parts of the row open around it. Assumes nothing.
use mathlib.Core.Path.{refl, sym, ap, ◌∙◌}
use Prim.Native.Nat.{ℕ}
use native.Mathlib.Omega.{arith}
use lib.ListN.{length-set}
use borrow.Author.Tests.{eq-eqb, ne_eqb}
use Rattle.deep.specs.declared.Read.TheVariants.{Short}
use Rattle.deep.proofs.Nested.{shift_none}
use Rattle.deep.proofs.Turn.{turn_end, turn_on, turn_open, turn_out, turn_close, turn_off}
use Rattle.deep.proofs.Around.{around, around_more, around_fewer, around_finished}
use Rattle.deep.proofs.read_few.Goals as goal
use Rattle.deep.proofs.read_few.Goals.{in-On, in-Into, in-Out+else-open-eq0}

pub loop-place-init : goal.loop-place-init
unfolding around
loop-place-init c = record { below = omega arith; long = refl; found = shift_none _ }

pub returns-then-open-eq0 : goal.returns-then-open-eq0
unfolding around
returns-then-open-eq0 c =
    let loop = c.loop-place in
    sym (turn_out _ _ _ _ _ c.loop-place-test.true loop.invariant.found _ c.stride.ensures c.in-Out.is
    (ap (λ (n : ℕ). around n loop.around) c.if-open-eq0.true))

pub returns-in-Off : goal.returns-in-Off
returns-in-Off c = sym (turn_off _ _ _ _ _ c.loop-place-test.true c.loop-place.invariant.found _ c.stride.ensures c.in-Off.is)

pub loop-place-preserved : goal.loop-place-preserved
loop-place-preserved c =
    let loop = c.loop-place in
    let taken = c.loop-place-test.true in
    elim c.match-stride.branch [
      | in-On w ↦ record {
        below = omega arith;
        long = rw w.around-is loop.invariant.long;
        found = rw (w.part-is, w.around-is, w.open-is) (turn_on _ _ _ _ _ taken loop.invariant.found _ c.stride.ensures _ w.in-On.is);
      }
      | in-Into w ↦ record {
        below = omega arith;
        long = rw (w.around-is, length-set) loop.invariant.long;
        found = rw (w.part-is, w.around-is, w.open-is, around_more loop.«open» loop.around _ (omega (arith, loop.invariant.long)))
            (turn_open _ _ _ _ _ taken loop.invariant.found _ c.stride.ensures _ w.in-Into.is);
      }
      | in-Out+else-open-eq0 w ↦ record {
        below = omega arith;
        long = rw w.around-is loop.invariant.long;
        found = rw (w.part-is, w.around-is, w.open-is, w.grown-part.ensures, w.opened.ensures)
            (turn_close _ _ _ _ _ taken loop.invariant.found _ c.stride.ensures _ _ w.in-Out.is
            (around_fewer loop.«open» loop.around w.if-open-eq0.false));
      }
    ]

pub returns-then-open-eq0-2 : goal.returns-then-open-eq0-2
returns-then-open-eq0-2 c =
    let loop = c.loop-place in
    sym (turn_end _ _ _ _ _ loop.invariant.found c.loop-place-test.false
    ∙ ap Short (rw (around_finished loop.part loop.«open» loop.around, eq-eqb _ _ c.if-open-eq0-2.true)))

pub returns-else-open-eq0-2 : goal.returns-else-open-eq0-2
returns-else-open-eq0-2 c =
    let loop = c.loop-place in
    sym (turn_end _ _ _ _ _ loop.invariant.found c.loop-place-test.false
    ∙ ap Short (rw (around_finished loop.part loop.«open» loop.around, ne_eqb _ _ c.if-open-eq0-2.false)))
