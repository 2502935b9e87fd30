-- What the rules' LIGHTS show, in any history and after any undo. Assumes nothing.
use mathlib.Core.Path.{◌≡◌, ◌∙◌}
use mathlib.Core.Bool.{true}
use mathlib.Core.List.{List}
use Prim.Native.Nat.{ℕ}
use Rattle.rules.specs.List.{sound_list}
use Rattle.rules.specs.State.{State, sound_state}
use Rattle.rules.specs.Lights.{lights}
use Rattle.rules.specs.Calls.{ruled}
use Rattle.rules.specs.History.{Steps}
use Rattle.lit.proofs.Shown.{lights_show}
use Rattle.lit.proofs.Waiting.{lit_as_waiting}
use Rattle.fair.proofs.Taken.{step_taken}
use Rattle.history.specs.Back.{Made, by_start, by_step, below}
use Rattle.history.proofs.Stack.{stack_facts}
use Rattle.history.proofs.Back.{undo_below}
use Rattle.demands.specs.Lights.{InTurn, Lit, LightsFresh}
use Rattle.laws.proofs.Passed.{lights_passed}
use Rattle.laws.proofs.Answers.{lights_number}

unrefused_lights : (list : List ℕ) (s : State) → sound_list list ≡ true → sound_state list s ≡ true → (lights list s).number ≡ 0
unrefused_lights list s h v = lights_number list s ∙ (lights_passed list s).1 (record { of_list = h; of_state = v })

lit : (list : List ℕ) (s : State) → sound_list list ≡ true → sound_state list s ≡ true → Lit list s (lights list s)
lit list s h v = let e = unrefused_lights list s h v in (e, lights_show list s e)

pub in_turn : InTurn ruled
in_turn list s lent p can r =
    let shown = (lit list s can.of_list can.of_state).1.on_in_turn p.station in (
      λ h. let x = shown.0 h in
          (step_taken list s lent p).1 (can, record { station = x.0; enabled = x.1.0; lowest = x.1.1 }, r),
      λ h. let c = ((step_taken list s lent p).0 h).1 in shown.1 (c.station, (c.enabled, c.lowest)),
    )

-- the state below a stack that START and STEP made is one of theirs
below_made : (list : List ℕ) {steps : Steps} → Made ruled list steps → Lit list (below steps).state (lights list (below steps).state)
below_made list (by_start b resets lent h) = let f = stack_facts list (by_start b resets lent h) in lit list _ f.of_list f.sound
below_made list (by_step p lent made h) = let f = stack_facts list made in lit list _ f.of_list f.sound

pub lights_fresh : LightsFresh ruled
lights_fresh list s lent calls steps stands =
    let back = undo_below list s lent calls steps stands in
    let before = below_made list back.made in
    record {
      lit = lit list _ (stack_facts list back.made).of_list back.sound;
      lit_undone = rw back.undone before;
      waits_undone = λ j within waits. rw back.undone (lit_as_waiting list _ _ before.1 j within waits);
    }
