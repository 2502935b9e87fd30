-- The records of a replay, one at a time. Assumes nothing.
use Prim.Native.Nat.{ℕ, suc}
use mathlib.Core.Path.{◌≡◌, sym, ap, ◌∙◌}
use mathlib.Core.Bool.{false}
use mathlib.Core.List.{List}
use lib.Dec.{eqb}
use Rattle.rules.specs.Records.{pick_at}
use Rattle.rules.specs.State.{State}
use Rattle.rules.specs.Step.{Picked}
use Rattle.laws.specs.Narrow.{narrow}
use Rattle.picking.specs.Took.{Took, state_of, took, with_parts, picked}
use Rattle.replaying.specs.Replayed.{took_from, replayed}

module _ (list log : List ℕ) (i : ℕ) (s : State) {number : ℕ} {left : State}
    (is : record { number = number; state = left } ≡ picked (narrow list) s (pick_at log i)) where
  abbrev t : Took
  t = took (narrow list) (state_of s.vars s.positions s.priorities s.counts s.n s.b) (pick_at log i)

  number_is : number ≡ t.number
  number_is = ap (λ (a : Picked). a.number) is

  left_is : left ≡ with_parts s t
  left_is = ap (λ (a : Picked). a.state) is

  -- the next record is taken
  pub from_taken : {count next more : ℕ} → more ≡ suc count → next ≡ suc i → number ≡ 0
      → replayed list log next count left ≡ replayed list log i more s
  unfolding took_from
  from_taken {count} m n taken =
      let zero : t.number ≡ 0 = sym number_is ∙ taken in
      rw (m, n, left_is, zero)

  -- or refused
  pub from_refused : {count more : ℕ} → more ≡ suc count → eqb number 0 ≡ false
      → record { number = number; state = left } ≡ replayed list log i more s
  unfolding took_from
  from_refused m refused =
      let some : eqb t.number 0 ≡ false = rw number_is at refused in
      rw (m, number_is, left_is, some)
