-- The masks of the ready, the ended and the waiting split the stations, since a station of the list is exactly one of the three. Assumes
-- nothing.
use mathlib.Core.Path.{◌≡◌}
use mathlib.Core.Bool.{Bool, true, false}
use mathlib.Core.List.{List}
use Prim.Native.Nat.{ℕ, ◌≤◌, ◌<◌}
use native.Mathlib.Omega.{arith}
use Rattle.rules.specs.State.{State}
use Rattle.rules.specs.Ready.{ready, waiting, ended}
use Rattle.rules.specs.Lights.{Lights}
use Rattle.rules.specs.Calls.{ruled}
use Rattle.laws.proofs.Choice.{by_test}
use Rattle.laws.proofs.Ready.{readiness_tells}
use Rattle.lit.specs.Lit.{bit, Marks, Shows, Splits, MasksSplit}
use Rattle.lit.proofs.Shown.{lights_show}
use Rattle.lit.proofs.Only.{same_test}

module _ (s : State) (m : ℕ) (test : ℕ → Bool) (marks : Marks s m (λ j. test j ≡ true)) (j : ℕ) where
  -- a station's bit is its test, and past the last there is none
  bit_is : j < s.n → bit m j ≡ test j
  bit_is l = same_test (bit m j) (test j) (λ h. ((marks j).0 h).1) (λ h. (marks j).1 (l, h))

  no_bit : s.n ≤ j → bit m j ≡ false
  no_bit l = by_test (bit m j) (λ h. absurd (omega (arith, ((marks j).0 h).0))) (λ h. h)

splits : (list : List ℕ) (s : State) (a : Lights) → Shows list s a → Splits s a
splits list s a x =
    record {
      each_once = λ j l.
          rw (
            bit_is s a.ready (ready list s) x.on_ready j l,
            bit_is s a.ended (ended list s) x.on_ended j l,
            bit_is s a.waiting (waiting list s) x.on_waiting j l,
          )
          ((readiness_tells list s).of_station j l).one_case;
      no_others = λ j l. (
        no_bit s a.ready (ready list s) x.on_ready j l,
        no_bit s a.ended (ended list s) x.on_ended j l,
        no_bit s a.waiting (waiting list s) x.on_waiting j l,
      );
    }

pub masks_split : MasksSplit ruled
masks_split list s answered = splits list s _ (lights_show list s answered)
