-- A refusal's answer, and that of all stations' masks in a sound state, are the rules' lights. Assumes nothing.
use mathlib.Core.Path.{◌≡◌, ◌∙◌}
use mathlib.Core.Bool.{false}
use mathlib.Core.List.{List}
use Prim.Native.Nat.{ℕ, ◌≤◌}
use native.Mathlib.Nat.{min-eq_left}
use borrow.Author.Tests.{ne_eqb}
use lib.Dec.{eqb}
use Rattle.rules.specs.Words.{refusal, judge}
use Rattle.rules.specs.Names.{max_stations}
use Rattle.rules.specs.State.{State}
use Rattle.rules.specs.Ready.{readiness, ready, waiting, ended, lowest}
use Rattle.rules.specs.Lights.{reads, writes, in_turn, lights_tests, lights}
use Rattle.laws.specs.Passed.{Known}
use Rattle.laws.proofs.Sound.{at_most_eight}
use Rattle.masks.specs.declared.Masks.{Masks}
use Rattle.masks.specs.Masks.{state_of, masks_from}
use Rattle.masks.proofs.Bits.{mask_from_all}
use Rattle.masks.proofs.Stations.{row_all}
use Rattle.record.specs.declared.refusal.Refusal.{Refusal}
use Rattle.record.specs.Refusals.{number_of}
use Rattle.asking.proofs.Answers.{number_some}
use Rattle.lights.specs.View.{refused_by, lit_by}

-- refused: all zeros but the number
pub refused : (list : List ℕ) (s : State) (e : Refusal) → number_of e ≡ refusal (lights_tests list s) → refused_by (number_of e) ≡ lights list s
unfolding lights
refused list s e same =
    let other : eqb (refusal (lights_tests list s)) 0 ≡ false = ne_eqb _ 0 (λ none. number_some e (same ∙ none)) in
    rw (same, other)

-- the masks of a state's parts are those of the state, where it has at most eight stations
of_parts : (list : List ℕ) (s : State) → s.n ≤ max_stations
    → masks_from list (state_of s.vars s.positions s.priorities s.n) 0 ≡ masks_from list s 0
unfolding readiness ready waiting ended lowest
of_parts list s few = rw (min-eq_left few)

pub gathered_all : (list : List ℕ) (s : State) → Known list s → (masks : Masks)
    → masks ≡ masks_from list (state_of s.vars s.positions s.priorities s.n) 0 → lit_by masks ≡ lights list s
unfolding lights judge
gathered_all list s known masks e =
    rw (
      e ∙ of_parts list s (at_most_eight known),
      known.of_list,
      known.of_state,
      mask_from_all (ready list s) s.n,
      mask_from_all (in_turn list s) s.n,
      mask_from_all (waiting list s) s.n,
      mask_from_all (ended list s) s.n,
      row_all list s reads known.of_list,
      row_all list s writes known.of_list,
    )
