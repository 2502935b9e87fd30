-- On a list and a state that are sound, with a B from 0 to 255, a step of the state's parts is the rules' STEP. Assumes nothing.
use Rattle.std.specs.Prelude.{if◌then◌else◌}
use Prim.Native.Nat.{ℕ, ◌≤◌, ◌<◌}
use mathlib.Core.Path.{◌≡◌, sym, ap, ◌∙◌}
use mathlib.Core.List.{List}
use native.Mathlib.Omega.{arith}
use lib.Dec.{eqb, leb}
use borrow.Author.Tests.{eqb-true, eqb-false, le-leb, lt-leb}
use Rattle.rules.specs.Words.{Answer, judge, refusal}
use Rattle.rules.specs.Names.{max_steps}
use Rattle.rules.specs.Records.{Pick}
use Rattle.rules.specs.State.{State}
use Rattle.rules.specs.Lent.{Lent}
use Rattle.rules.specs.Step.{Picked, with_step, pick_tests, before_pick, step}
use Rattle.laws.specs.Passed.{Known}
use Rattle.laws.proofs.Choice.{by_test}
use Rattle.laws.proofs.Judge.{judge_before}
use Rattle.laws.proofs.Passed.{before_passed}
use Rattle.laws.proofs.Answers.{step_picked}
use Rattle.laws.proofs.Sound.{sound_means}
use Rattle.picking.proofs.Known.{took_known}
use Rattle.stepping.specs.Logged.{room_left, logged}

pub few_steps : {list : List ℕ} {s : State} → Known list s → s.m ≤ max_steps
few_steps {list} {s} known = ((sound_means list s).0 known.of_state).few_steps

-- 4,096 steps are as many as a sound state has
full_is : (m : ℕ) → m ≤ max_steps → leb max_steps m ≡ eqb m max_steps
full_is m few =
    by_test (eqb m max_steps)
    (λ e. le-leb max_steps m (omega (arith, eqb-true m max_steps e)) ∙ sym e)
    (λ e. lt-leb max_steps m (omega (arith, eqb-false m max_steps e)) ∙ sym e)

-- past 7 and 8, what is left to refuse before the pick
only_room : (list : List ℕ) (s : State) (lent : Lent) → Known list s → refusal (before_pick list s lent) ≡ refusal (room_left s lent)
unfolding judge
only_room list s lent known = rw (known.of_list, known.of_state, full_is s.m (few_steps known))

pub logged_known : (list : List ℕ) (s : State) (lent : Lent) (p : Pick) → Known list s → s.b < 256
    → logged list s lent p ≡ step list s lent p
unfolding logged step
logged_known list s lent p known small =
    let left = only_room list s lent known in
    by_test (eqb (refusal (room_left s lent)) 0)
    (λ y.
    let can = (before_passed list s lent).0 (left ∙ eqb-true _ 0 y) in
    rw y
    (ap (λ (a : Picked). record { number = a.number; state = a.state; lent = if eqb a.number 0 then with_step lent s p a.state else lent })
    (took_known list s p known small) ∙ sym (step_picked list s lent p can)))
    (λ y.
    let refused = eqb-false (refusal (room_left s lent)) 0 y in
    let same = ap (λ (a : Answer). a.number) (judge_before (before_pick list s lent) (pick_tests list s p) (λ z. refused (sym left ∙ z))) ∙ left in
    rw (y, same, y))
