-- A step keeps a state sound, and so does a pick alone; and what a sound state bounds. Assumes nothing.
use mathlib.Core.Path.{◌≡◌, refl}
use mathlib.Core.Bool.{true, false}
use mathlib.Core.List.{List, [], ◌∷◌}
use Prim.Native.Nat.{ℕ, zero, suc, ◌≤◌, ◌<◌}
use native.Mathlib.Omega.{arith}
use borrow.Author.Tests.{eqb-true, ne_eqb}
use lib.Dec.{eqb}
use lib.ListN.{get_or, set}
use lib.Seq.{get_or-set_other}
use lib.IntN.{pos}
use Rattle.rules.specs.Names.{STOP, max_stations, max_steps}
use Rattle.rules.specs.Records.{Pick}
use Rattle.rules.specs.List.{sound_list, outside}
use Rattle.rules.specs.State.{State, position, priority, count, empty_at, sound_state}
use Rattle.rules.specs.Ready.{next_step, ready}
use Rattle.rules.specs.Step.{stepped, picked, step}
use Rattle.laws.specs.Passed.{Known}
use Rattle.laws.proofs.Choice.{by_test}
use Rattle.laws.proofs.Ready.{readiness_tells}
use Rattle.laws.proofs.Signed.{le_z_means, in_bound_means}
use Rattle.fair.specs.Charged.{Chosen}
use Rattle.fair.specs.Sound.{Held, StepSound, PriorityBound, CountBound}
use Rattle.fair.proofs.Charge.{few_low_kept, bound_kept, count_low, rest_kept}
use Rattle.laws.proofs.Sound.{Clauses, sound_means, few_stations}
use Rattle.fair.proofs.Targets.{position_outside}
use Rattle.laws.proofs.Answers.{picked_can, picked_state, picked_leaves, step_state, step_refused}
use Rattle.fair.proofs.Taken.{pick_allowed, step_taken}

-- an entry of a list in which one was set has what the one set has and what it had itself
set_has : {A : Type 0} (P : A → Type 0) (xs : List A) (i : ℕ) (x : A) (j : ℕ) (d : A)
    → (j ≡ i → P x) → P (get_or xs j d) → P (get_or (set xs i x) j d)
set_has P [] i x j d new old = old
set_has P (y ∷ xs) zero x zero d new old = new refl
set_has P (y ∷ xs) zero x (suc j) d new old = old
set_has P (y ∷ xs) (suc i) x zero d new old = old
set_has P (y ∷ xs) (suc i) x (suc j) d new old = set_has P xs i x j d (λ e. new (rw e)) old

-- a ready station is not at a STOP
going : (list : List ℕ) (s : State) (j : ℕ) → j < s.n → ready list s j ≡ true → eqb (next_step list s j).own.kind STOP ≡ false
going list s j l r = ne_eqb _ STOP (((readiness_tells list s).of_station j l).ready_when.0 r).0

module _ (list : List ℕ) (s : State) (p : Pick) (h : sound_list list ≡ true) (v : Clauses list s) (c : Chosen list s p.station) where
  placed : (j : ℕ) → j < s.n → outside list j (position (stepped list s p) j) ≡ true
  unfolding stepped
  placed j l =
      set_has (λ q. outside list j q ≡ true) s.positions p.station _ j 0
      (λ e. rw e (position_outside list p.station (position s p.station) s.vars h (v.placed p.station c.station)
      (going list s p.station c.station c.enabled)))
      (v.placed j l)

  position_kept : (j : ℕ) → s.n ≤ j → position (stepped list s p) j ≡ position s j
  unfolding stepped
  position_kept j from = get_or-set_other s.positions p.station j _ 0 (omega (arith, c.station))

  empty : (j : ℕ) → s.n ≤ j → j < max_stations → empty_at (stepped list s p) j ≡ true
  unfolding empty_at
  empty j from below =
      let rest = rest_kept list s p j from in
      rw (position_kept j from, rest.0, rest.1, empty_at) (v.empty j from below)

  pub stepped_sound : Held s → p.reset ≤ s.b → s.m < max_steps → Clauses list (stepped list s p)
  unfolding stepped
  stepped_sound held r m =
      let few : s.n ≤ max_stations = omega (arith, v.of_list, few_stations list h) in
      record {
        of_list = v.of_list;
        few_steps = omega arith;
        placed = placed;
        bounded = bound_kept list s p (omega (arith, held.priorities)) (omega (arith, held.counts)) r v.bounded;
        few = few_low_kept list s p c v.few;
        empty = empty;
      }

-- taken or refused, a pick answers a sound state
pub picked_sound : (list : List ℕ) (s : State) (p : Pick) → Held s → Known list s → s.m < max_steps
    → sound_state list (picked list s p).state ≡ true
picked_sound list s p held known m =
    by_test (eqb (picked list s p).number 0)
    (λ e.
    let n = eqb-true _ 0 e in
    let (c, r) = (pick_allowed list s p).0 (picked_can list s p n) in
    rw (picked_state list s p n)
    ((sound_means list (stepped list s p)).1 (stepped_sound list s p known.of_list ((sound_means list s).0 known.of_state) c held r m)))
    (λ e. rw (picked_leaves list s p e) known.of_state)

pub step_sound : StepSound
step_sound list s lent p held h =
    by_test (eqb (step list s lent p).number 0)
    (λ e.
    let n = eqb-true _ 0 e in
    let (can, c, r) = (step_taken list s lent p).0 n in
    rw (step_state list s lent p n)
    ((sound_means list (stepped list s p)).1
    (stepped_sound list s p can.of_list ((sound_means list s).0 h) c held r can.steps_left)))
    (λ e. rw (step_refused list s lent p e) h)

pub priority_bound : PriorityBound
priority_bound list s h j l =
    (le_z_means (priority s j) (pos s.b)).1
    (omega (arith, (in_bound_means s.b (priority s j) (count s j)).0 (((sound_means list s).0 h).bounded j l)))

pub count_bound : CountBound
count_bound list s h = let v = (sound_means list s).0 h in count_low s v.few v.bounded
