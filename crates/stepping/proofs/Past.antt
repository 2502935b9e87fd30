-- A step past its tests of room: its pick, taken or refused. Assumes nothing.
use Prim.Native.Nat.{ℕ, ◌+◌, ◌*◌}
use mathlib.Core.Path.{◌≡◌, sym, ap, ◌∙◌}
use mathlib.Core.Bool.{false}
use mathlib.Core.List.{List}
use lib.Dec.{eqb}
use borrow.Author.Tests.{eq-eqb}
use Rattle.rules.specs.Words.{written, refusal}
use Rattle.rules.specs.Records.{Pick, pick_bytes}
use Rattle.rules.specs.State.{State, one_step_on}
use Rattle.rules.specs.Lent.{Lent}
use Rattle.rules.specs.Kept.{keep}
use Rattle.rules.specs.Step.{Picked}
use Rattle.laws.specs.Narrow.{narrow}
use Rattle.picking.specs.Took.{Took, state_of, took, with_parts, picked}
use Rattle.stepping.specs.Logged.{room_left, logged}

module _ (list : List ℕ) (s : State) (lent : Lent) (p : Pick) (room : refusal (room_left s lent) ≡ 0) {number : ℕ} {left : State}
    (is : record { number = number; state = left } ≡ picked (narrow list) s p) where
  abbrev t : Took
  t = took (narrow list) (state_of s.vars s.positions s.priorities s.counts s.n s.b) p

  number_is : number ≡ t.number
  number_is = ap (λ (a : Picked). a.number) is

  left_is : left ≡ with_parts s t
  left_is = ap (λ (a : Picked). a.state) is

  -- taken, it leaves its record in the log and the state after it, of a step more, in its kept place
  pub past_taken : {log kept : List ℕ} → number ≡ 0 → log ≡ written lent.log (2 * (left.n + left.m)) (pick_bytes p)
      → kept ≡ keep lent.kept (one_step_on left left.vars left.positions left.priorities left.counts)
      → record {
        number = 0;
        state = one_step_on left left.vars left.positions left.priorities left.counts;
        lent = record { log = log; kept = kept };
      } ≡ logged list s lent p
  unfolding logged
  past_taken taken log kept =
      let zero : t.number ≡ 0 = sym number_is ∙ taken in
      rw (eq-eqb (refusal (room_left s lent)) 0 room, log, kept, left_is, zero)

  -- and refused nothing
  pub past_refused : eqb number 0 ≡ false → record { number = number; state = left; lent = lent } ≡ logged list s lent p
  unfolding logged
  past_refused refused =
      let some : eqb t.number 0 ≡ false = rw number_is at refused in
      rw (eq-eqb (refusal (room_left s lent)) 0 room, number_is, left_is, some)
