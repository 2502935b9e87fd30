-- The state that a start gives is sound: every number is a reset, so none is low. Assumes nothing.
use mathlib.Core.Path.{◌≡◌, refl, ◌∙◌}
use mathlib.Core.Bool.{true, ◌&&◌}
use mathlib.Core.List.{List, [], ◌∷◌, ◌++◌, map}
use Prim.Native.Nat.{ℕ, zero, suc, ◌-◌, ◌≤◌, ◌<◌}
use native.Mathlib.Omega.{arith}
use borrow.Author.Tests.{le-leb}
use lib.Dec.{eqb}
use lib.ListN.{length, get_or, replicate, get_or-map, get_or-eq_default}
use lib.IntN.{pos}
use Rattle.rules.specs.Words.{values}
use Rattle.rules.specs.Names.{max_stations}
use Rattle.rules.specs.Records.{list_record_at}
use Rattle.rules.specs.List.{stations, outside, init_right, sound_list}
use Rattle.rules.specs.State.{position, priority, count, few_low, empty_at}
use Rattle.rules.specs.Start.{started}
use Rattle.laws.proofs.Choice.{both_left, both_right}
use Rattle.laws.proofs.Places.{length_values, get_or_values}
use Rattle.fair.specs.Sound.{StartSound}
use Rattle.fair.proofs.Order.{low}
use Rattle.laws.proofs.Counts.{tally_none}
use Rattle.laws.proofs.Signed.{in_bound_means}
use Rattle.laws.proofs.Sound.{Clauses, sound_means}
use Rattle.laws.proofs.Sound.{inits_right}
use Rattle.laws.proofs.Answers.{start_can, start_state}
use Rattle.fair.proofs.Held.{started_held}

-- a list with its default after it
padded : {A : Type 0} (xs : List A) (k j : ℕ) (d : A) → get_or (xs ++ replicate k d) j d ≡ get_or xs j d
padded [] zero j d = refl
padded [] (suc k) zero d = refl
padded [] (suc k) (suc j) d = padded [] k j d
padded (x ∷ xs) k zero d = refl
padded (x ∷ xs) k (suc j) d = padded xs k j d

module _ (list : List ℕ) (b : ℕ) (resets : List ℕ) where
  pub start_priority : (j : ℕ) → priority (started list b resets) j ≡ pos (get_or resets j 0)
  unfolding started
  start_priority j = padded (map pos resets) (max_stations - stations list) j (pos 0) ∙ get_or-map pos resets j 0

  pub start_count : (j : ℕ) → count (started list b resets) j ≡ 0
  unfolding started
  start_count j = padded [] max_stations j 0

  pub start_position : (j : ℕ) → j < stations list → position (started list b resets) j ≡ (list_record_at list j).t1
  unfolding started
  start_position j l = padded (values _ (stations list)) (max_stations - stations list) j 0 ∙ get_or_values _ (stations list) j 0 l

  pub no_position : (j : ℕ) → stations list ≤ j → position (started list b resets) j ≡ 0
  unfolding started
  no_position j l =
      let e = length_values (λ j. (list_record_at list j).t1) (stations list) in
      padded (values _ (stations list)) (max_stations - stations list) j 0
      ∙ get_or-eq_default (values (λ j. (list_record_at list j).t1) (stations list)) 0 (omega arith)

  started_few : (i : ℕ) → i < stations list → few_low (started list b resets) (suc i) ≡ true
  unfolding few_low started
  started_few i l =
      le-leb _ (stations list)
      (omega (arith, tally_none (λ j. low (suc i) (priority (started list b resets) j)) (stations list) (λ j k. rw (start_priority j))))

  started_placed : sound_list list ≡ true → (j : ℕ) → j < stations list → outside list j (position (started list b resets) j) ≡ true
  unfolding init_right
  started_placed h j l =
      let e = list_record_at list j in
      rw (start_position j l)
      (both_right (eqb e.own.a j && eqb e.own.b 0 && eqb e.own.op 0 && eqb e.own.k 0 && eqb e.station j && eqb e.inside 0) _
      (both_left _ (eqb e.t2 0) (both_left _ (eqb e.spare 0) (inits_right list h j l))))

  started_empty : length resets ≡ stations list → (j : ℕ) → stations list ≤ j → empty_at (started list b resets) j ≡ true
  unfolding empty_at
  started_empty n j l =
      let z : get_or resets j 0 ≡ 0 = get_or-eq_default resets 0 (omega arith) in
      rw (no_position j l, start_priority j, start_count j, z, empty_at)

  pub started_sound : sound_list list ≡ true → length resets ≡ stations list
      → ((j : ℕ) → j < stations list → get_or resets j 0 ≤ b) → Clauses list (started list b resets)
  unfolding started
  started_sound h n r =
      record {
        of_list = refl;
        few_steps = omega arith;
        placed = started_placed h;
        bounded = λ j l. rw (start_priority j, start_count j) ((in_bound_means b (pos (get_or resets j 0)) 0).1 (omega (arith, r j l)));
        few = started_few;
        empty = λ j l below. started_empty n j l;
      }

pub start_sound : StartSound
start_sound list b resets lent h =
    let can = start_can list b resets lent h in
    rw (start_state list b resets lent h) (
      (sound_means list (started list b resets)).1 (started_sound list b resets can.of_list can.count can.within),
      started_held list b resets can.of_list can.count,
    )
