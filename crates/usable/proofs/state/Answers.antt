-- `usable::state` meets its contract. Assumes nothing.
use mathlib.Core.Path.{sym, ◌∙◌}
use borrow.Author.Tests.{eq-eqb, ne_eqb}
use Rattle.usable.specs.Usable.{usable}
use Rattle.usable.proofs.state.Goals as goal
use Rattle.usable.proofs.state.Goals.{else-sound-via-then-sound+then-state-place+else-state-b, else-sound-via-then-sound+else-state-place, else-sound-via-else-sound}

pub returns-then-not-zeros : goal.returns-then-not-zeros
unfolding usable
returns-then-not-zeros c = rw (sym c.zeros.ensures ∙ c.if-not-zeros.true)

pub returns-then-state-b : goal.returns-then-state-b
unfolding usable
returns-then-state-b c =
    rw (
      ← c.state-state.ensures,
      sym c.zeros.ensures ∙ c.if-not-zeros.false,
      sym c.sound.ensures ∙ c.if-sound.true,
      eq-eqb _ _ c.if-state-place.true,
      eq-eqb _ _ c.if-state-b.true,
    )

pub returns : goal.returns
unfolding usable
returns c =
    let there = sym c.zeros.ensures ∙ c.if-not-zeros.false in
    elim c.else-sound.branch [
      | else-sound-via-then-sound+then-state-place+else-state-b w ↦ rw (
        ← c.state-state.ensures,
        there,
        sym c.sound.ensures ∙ w.if-sound.true,
        eq-eqb _ _ w.if-state-place.true,
        ne_eqb _ _ w.if-state-b.false,
      )
      | else-sound-via-then-sound+else-state-place w ↦ rw (
        ← c.state-state.ensures,
        there,
        sym c.sound.ensures ∙ w.if-sound.true,
        ne_eqb _ _ w.if-state-place.false,
      )
      | else-sound-via-else-sound w ↦ rw (← c.state-state.ensures, there, sym c.sound.ensures ∙ w.if-sound.false)
    ]
