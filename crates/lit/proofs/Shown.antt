-- The rules' answer shows what the lights are to show. The theorem stands at the end. Assumes nothing.
use mathlib.Core.Path.{◌≡◌, refl}
use mathlib.Core.Logic.{◌↔◌}
use mathlib.Core.Bool.{Bool, true, and-false}
use mathlib.Core.List.{List}
use Prim.Native.Nat.{ℕ, ◌<◌}
use native.Mathlib.Omega.{arith}
use Rattle.rules.specs.Words.{each, mask, judge}
use Rattle.rules.specs.Names.{variables}
use Rattle.rules.specs.Records.{Record}
use Rattle.rules.specs.List.{outside, sound_list}
use Rattle.rules.specs.State.{State, position, sound_state}
use Rattle.rules.specs.Ready.{ready, waiting, ended}
use Rattle.rules.specs.Lights.{reads, writes, touches, in_turn, row_of, lights}
use Rattle.rules.specs.Calls.{ruled}
use Rattle.laws.proofs.Choice.{both, both_left, both_right, surely}
use Rattle.laws.proofs.Places.{each_at, length_values, get_or_values}
use Rattle.laws.proofs.Lowest.{lowest_means}
use Rattle.lit.specs.Lit.{Touches, Marks, MarksRow, HasTurn, LightsShow}
use Rattle.lit.proofs.Bits.{mask_bits}
use Rattle.lit.proofs.Touched.{touches_means}

-- a mask of a test marks what the test means
mask_marks : (s : State) (f : ℕ → Bool) (P : ℕ → Type 0) → ((j : ℕ) → j < s.n → (f j ≡ true) ↔ P j) → Marks s (mask f s.n) P
mask_marks s f P means j = (
  λ h. let (within, so) = (mask_bits f s.n j).0 h in (within, (means j within).0 so),
  λ h. (mask_bits f s.n j).1 (h.0, (means j h.0).1 h.1),
)

in_turn_means : (list : List ℕ) (s : State) (j : ℕ) → (in_turn list s j ≡ true) ↔ HasTurn list s j
in_turn_means list s j = (
  λ h. (both_left (ready list s j) _ h, (lowest_means list s j).0 (both_right (ready list s j) _ h)),
  λ h. both h.0 ((lowest_means list s j).1 h.1),
)

-- an answer that is not a refusal
module _ (list : List ℕ) (s : State) (answered : (lights list s).number ≡ 0) where
  -- is of a sound list and a sound state
  of_list : sound_list list ≡ true
  unfolding lights judge
  of_list = surely (sound_list list) (λ e. absurd (let z = rw e at answered in omega arith))

  of_state : sound_state list s ≡ true
  unfolding lights judge
  of_state = surely (sound_state list s) (λ e. absurd (let z = rw (of_list, e) at answered in omega arith))

  -- so each station stands at an outside record of its own
  stands : (j : ℕ) → j < s.n → outside list j (position s j) ≡ true
  unfolding sound_state
  stands =
      let test : ℕ → Bool = λ j. outside list j (position s j) in
      each_at test s.n (surely (each test s.n) (λ e. simp (e, and-false) at of_state))

  row_shows : (does : ℕ → Record → Bool) → MarksRow s (row_of does list s) (λ v j. Touches (does v) list s j)
  row_shows does =
      record {
        long = length_values _ variables;
        marks = λ v l.
            rw (get_or_values (λ i. mask (touches (does i) list s) s.n) variables v 0 l)
            (mask_marks s (touches (does v) list s) _ (λ j within. touches_means (does v) list s j of_list (stands j within)));
      }

pub lights_show : LightsShow ruled
unfolding lights judge
lights_show list s answered =
    rw (of_list list s answered, of_state list s answered)
    (record {
      on_ready = mask_bits (ready list s) s.n;
      on_in_turn = mask_marks s (in_turn list s) _ (λ j within. in_turn_means list s j);
      on_waiting = mask_bits (waiting list s) s.n;
      on_ended = mask_bits (ended list s) s.n;
      two_rows = refl;
      on_reads = row_shows list s answered reads;
      on_writes = row_shows list s answered writes;
    })
