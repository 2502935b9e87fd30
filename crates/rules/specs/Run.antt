-- RUN: single steps until the first refusal, the end of the picks or the most-steps number. These are definitions.
use Rattle.std.specs.Prelude.{ℕ, zero, suc, ◌/◌, ◌%◌, min, not, List, [], ◌∷◌, eqb, length, if◌then◌else◌}
use Rattle.rules.specs.Words.{Test, ◌refuses◌at◌, refusal}
use Rattle.rules.specs.Names.{LENGTH, LIST, STATE}
use Rattle.rules.specs.Records.{pick_at}
use Rattle.rules.specs.List.{sound_list}
use Rattle.rules.specs.State.{State, sound_state}
use Rattle.rules.specs.Lent.{Lent}
use Rattle.rules.specs.Step.{step}

-- "answers the state, the steps taken and the refusal or 0", and what is lent as the steps leave it
pub record Ran : Type 0 where
  pub number : ℕ
  pub state : State
  pub steps : ℕ
  pub lent : Lent

abbrev pub one_more : Ran → Ran
one_more r = record { number = r.number; state = r.state; steps = suc r.steps; lent = r.lent }

-- so many picks, from record i on
unfoldable pub steps_from : List ℕ → List ℕ → ℕ → ℕ → State → Lent → Ran
steps_from list picks i zero s lent = record { number = 0; state = s; steps = 0; lent = lent }
steps_from list picks i (suc count) s lent =
    let a = step list s lent (pick_at picks i) in
    if eqb a.number 0 then one_more (steps_from list picks (suc i) count a.state a.lent)
    else record { number = a.number; state = s; steps = 0; lent = lent }

-- "Odd length is LENGTH, tested first; then LIST and STATE, tested once even when no step is allowed"
abbrev pub run_tests : List ℕ → State → List ℕ → List Test
run_tests list s picks =
    (eqb (length picks % 2) 1 refuses LENGTH at 0)
    ∷ (not (sound_list list) refuses LIST at 0)
    ∷ (not (sound_state list s) refuses STATE at 0)
    ∷ []

-- "RUN takes picks as two-byte records and a most-steps number"
unfoldable pub run : List ℕ → State → Lent → List ℕ → ℕ → Ran
run list s lent picks most =
    let number = refusal (run_tests list s picks) in
    if eqb number 0 then steps_from list picks 0 (min most (length picks / 2)) s lent
    else record { number = number; state = s; steps = 0; lent = lent }
