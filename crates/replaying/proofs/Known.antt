-- On a list and a state that are sound, with a B from 0 to 255, a replay of the state's parts is the rules' replay. Assumes nothing.
use Prim.Native.Nat.{ℕ, zero, suc, ◌+◌, ◌≤◌, ◌<◌}
use mathlib.Core.Path.{◌≡◌, refl, sym, ap, ◌∙◌}
use mathlib.Core.List.{List}
use native.Mathlib.Omega.{arith}
use lib.Dec.{eqb}
use borrow.Author.Tests.{eqb-true, eq-eqb}
use Rattle.rules.specs.Names.{max_steps}
use Rattle.rules.specs.Records.{pick_at}
use Rattle.rules.specs.State.{State}
use Rattle.rules.specs.Step.{Picked, picked}
use Rattle.rules.specs.Undo.{replay}
use Rattle.laws.specs.Passed.{Known}
use Rattle.laws.specs.Narrow.{narrow}
use Rattle.laws.proofs.Choice.{by_test}
use Rattle.fair.specs.Sound.{Held}
use Rattle.fair.proofs.Held.{picked_held}
use Rattle.fair.proofs.Kept.{picked_sound}
use Rattle.picking.specs.Took.{state_of, took, after}
use Rattle.picking.proofs.Known.{took_known}
use Rattle.replaying.specs.Replayed.{took_from, took_of, as_took}

pub replay_known : (list log : List ℕ) (i count : ℕ) (s : State) → Held s → Known list s → s.b < 256 → s.m + count ≤ max_steps
    → took_from list log s.n s.b i count (took_of 0 s) ≡ as_took (replay list log i count s)
unfolding replay took_from
replay_known list log i zero s held known small few = refl
replay_known list log i (suc count) s held known small few =
    let p = pick_at log i in
    let t = took (narrow list) (state_of s.vars s.positions s.priorities s.counts s.n s.b) p in
    let e : after s t ≡ picked list s p = took_known list s p known small in
    by_test (eqb t.number 0)
    (λ y.
    let zero = eqb-true t.number 0 y in
    let taken = sym (ap (λ (a : Picked). a.number) e) ∙ zero in
    let steps : s.m + 1 ≡ (picked list s p).state.m = rw y at (ap (λ (a : Picked). a.state.m) e) in
    let same_b : s.b ≡ (picked list s p).state.b = ap (λ (a : Picked). a.state.b) e in
    let later : Known list (picked list s p).state = record { of_list = known.of_list; of_state = picked_sound list s p held known (omega (arith, few)) } in
    let parts : t ≡ took_of 0 (after s t).state = λ k. took_of (zero k) (after s t).state in
    rw (y, eq-eqb _ 0 taken)
    (ap (took_from list log s.n s.b (suc i) count) parts
    ∙ ap
    (λ (a : Picked). took_from list log a.state.n a.state.b (suc i) count (took_of 0 a.state))
    e
    ∙ replay_known list log (suc i) count (picked list s p).state (picked_held list s p held) later (omega (arith, small, same_b))
    (omega (arith, few, steps))))
    (λ y.
    let same = ap (λ (a : Picked). a.number) e in
    rw (y, rw same at y) (ap (λ (a : Picked). took_of a.number a.state) e))
