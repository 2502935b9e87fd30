-- `whole::sound` meets its contract: each join has what `&&` says of the tests before it. Assumes nothing.
use mathlib.Core.Path.{◌≡◌, refl, ◌∙◌}
use Prim.Native.Nat.{suc}
use mathlib.Core.Bool.{◌&&◌}
use borrow.Author.Tests.{eq-eqb, ne_eqb}
use lib.Dec.{eqb, leb}
use Rattle.rules.specs.Words.{each}
use Rattle.rules.specs.Names.{max_steps}
use Rattle.rules.specs.List.{later_after, is_at}
use Rattle.rules.specs.State.{position, priority, count, in_bound, few_low_in}
use Rattle.state.specs.View.{as_state}
use Rattle.whole.proofs.Clauses.{sound_given, and_then, and_else}
use Rattle.whole.proofs.sound.Goals as goal
use Rattle.whole.proofs.sound.Goals.{then-state-count, else-state-count}
use Rattle.whole.proofs.sound.Goals.{then-state-le-MAX_STEPS, else-state-le-MAX_STEPS}
use Rattle.whole.proofs.sound.Goals.{then-placed, else-placed}
use Rattle.whole.proofs.sound.Goals.{then-bounded, else-bounded}

pub returns-then-few_low : goal.returns-then-few_low
returns-then-few_low c =
    let list = c.args.list.now in
    let s = as_state c.args.state.now in
    let stations = c.stations-count.result in
    let few : c.if-state-count.value ≡ (eqb s.n stations && leb s.m max_steps) = elim c.if-state-count.branch [
      | then-state-count w ↦ and_then _ _ _ (eq-eqb _ _ w.if-state-count.true) w.value-is
      | else-state-count w ↦ and_else _ _ _ (ne_eqb _ _ w.if-state-count.false) w.value-is
    ] in
    let placed : c.if-state-le-MAX_STEPS.value ≡ (c.if-state-count.value && each (λ j. is_at list (later_after list stations) 0 j (position s j)) s.n) = elim c.if-state-le-MAX_STEPS.branch [
      | then-state-le-MAX_STEPS w ↦ and_then _ _ _ w.if-state-le-MAX_STEPS.true (w.value-is ∙ rw w.later.ensures at w.placed.ensures)
      | else-state-le-MAX_STEPS w ↦ and_else _ _ _ w.if-state-le-MAX_STEPS.false w.value-is
    ] in
    let bounded : c.if-placed.value ≡ (c.if-state-le-MAX_STEPS.value && each (λ j. in_bound s.b (priority s j) (count s j)) s.n) = elim c.if-placed.branch [
      | then-placed w ↦ and_then _ _ _ w.if-placed.true (w.value-is ∙ w.bounded.ensures)
      | else-placed w ↦ and_else _ _ _ w.if-placed.false w.value-is
    ] in
    let low : c.if-bounded.value ≡ (c.if-placed.value && each (λ i. few_low_in s.priorities s.n (suc i)) s.n) = elim c.if-bounded.branch [
      | then-bounded w ↦ and_then _ _ _ w.if-bounded.true (w.value-is ∙ w.few_low.ensures)
      | else-bounded w ↦ and_else _ _ _ w.if-bounded.false w.value-is
    ] in
    rw (sound_given list s c.stations-count.ensures refl, ← few, ← placed, ← bounded, ← low, c.if-few_low.true) c.empty.ensures

pub returns-else-few_low : goal.returns-else-few_low
returns-else-few_low c =
    let list = c.args.list.now in
    let s = as_state c.args.state.now in
    let stations = c.stations-count.result in
    let few : c.if-state-count.value ≡ (eqb s.n stations && leb s.m max_steps) = elim c.if-state-count.branch [
      | then-state-count w ↦ and_then _ _ _ (eq-eqb _ _ w.if-state-count.true) w.value-is
      | else-state-count w ↦ and_else _ _ _ (ne_eqb _ _ w.if-state-count.false) w.value-is
    ] in
    let placed : c.if-state-le-MAX_STEPS.value ≡ (c.if-state-count.value && each (λ j. is_at list (later_after list stations) 0 j (position s j)) s.n) = elim c.if-state-le-MAX_STEPS.branch [
      | then-state-le-MAX_STEPS w ↦ and_then _ _ _ w.if-state-le-MAX_STEPS.true (w.value-is ∙ rw w.later.ensures at w.placed.ensures)
      | else-state-le-MAX_STEPS w ↦ and_else _ _ _ w.if-state-le-MAX_STEPS.false w.value-is
    ] in
    let bounded : c.if-placed.value ≡ (c.if-state-le-MAX_STEPS.value && each (λ j. in_bound s.b (priority s j) (count s j)) s.n) = elim c.if-placed.branch [
      | then-placed w ↦ and_then _ _ _ w.if-placed.true (w.value-is ∙ w.bounded.ensures)
      | else-placed w ↦ and_else _ _ _ w.if-placed.false w.value-is
    ] in
    let low : c.if-bounded.value ≡ (c.if-placed.value && each (λ i. few_low_in s.priorities s.n (suc i)) s.n) = elim c.if-bounded.branch [
      | then-bounded w ↦ and_then _ _ _ w.if-bounded.true (w.value-is ∙ w.few_low.ensures)
      | else-bounded w ↦ and_else _ _ _ w.if-bounded.false w.value-is
    ] in
    rw (sound_given list s c.stations-count.ensures refl, ← few, ← placed, ← bounded, ← low, c.if-few_low.false)
