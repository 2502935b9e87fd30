-- On a list and a state that are sound, with a B from 0 to 255, a pick of the state's parts is the rules' pick. Assumes nothing.
use Prim.Native.Nat.{ℕ, ◌<◌}
use mathlib.Core.Path.{◌≡◌}
use mathlib.Core.List.{List}
use native.Mathlib.Nat.{min-eq_left}
use native.Mathlib.Omega.{arith}
use lib.Dec.{eqb}
use lib.IntN.{pos}
use Rattle.rules.specs.Words.{changed, refusal}
use Rattle.rules.specs.Records.{Pick}
use Rattle.rules.specs.State.{State, priority, count}
use Rattle.rules.specs.Ready.{readiness, ready, ended, waiting, lowest}
use Rattle.rules.specs.Step.{charge, counts_after, stepped, pick_tests, picked}
use Rattle.laws.specs.Passed.{Known}
use Rattle.laws.specs.Narrow.{narrow}
use Rattle.laws.proofs.Choice.{by_test}
use Rattle.laws.proofs.Changed.{changed_same}
use Rattle.laws.proofs.Narrow.{narrow_sound}
use Rattle.laws.proofs.Sound.{at_most_eight, sound_means}
use Rattle.fair.proofs.Charge.{above_low}
use Rattle.fair.proofs.Kept.{count_bound}
use Rattle.charging.specs.Charge.{held_charge, held_count}
use Rattle.charging.proofs.Held.{charge_is, count_is}
use Rattle.picking.specs.Took.{state_of, took, after}

module _ (list : List ℕ) (s : State) (p : Pick) (known : Known list s) (small : s.b < 256) where
  -- every priority is above -n, so that the charge is the rules'
  charge_known : changed (λ j. held_charge (eqb j p.station) (ready list s j) p.reset) s.n s.priorities ≡ charge list s p
  unfolding charge
  charge_known =
      let few = at_most_eight known in
      let above = above_low s ((sound_means list s).0 known.of_state).few in
      changed_same _ _ s.n s.priorities (pos 0)
      (λ j l. charge_is s.n (priority s j) (eqb j p.station) (ready list s j) p.reset few (above j l))

  -- and no count is above B+n-1, so that they are counted as the rules say
  count_known : changed (λ j. held_count (eqb j p.station) (ready list s j)) s.n s.counts ≡ counts_after list s p
  unfolding counts_after
  count_known =
      let few = at_most_eight known in
      changed_same _ _ s.n s.counts 0
      (λ j l. count_is (count s j) (eqb j p.station) (ready list s j) (omega (arith, count_bound list s known.of_state j l)))

  -- the parts, of a list that is read as it is
  took_here : after s (took list s p) ≡ picked list s p
  unfolding took picked stepped
  took_here =
      by_test (eqb (refusal (pick_tests list s p)) 0) (λ e. rw (e, charge_known, count_known)) (λ e. rw (e, e))

  pub took_known : after s (took (narrow list) (state_of s.vars s.positions s.priorities s.counts s.n s.b) p) ≡ picked list s p
  unfolding took readiness ready ended waiting lowest
  took_known =
      rw (narrow_sound list known.of_list, min-eq_left (at_most_eight known)) took_here
