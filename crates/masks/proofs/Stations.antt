-- The masks of the stations from one on: of no station, of one more, and of all of them, which on a sound list are those of the rules'
-- lights. Assumes nothing.
use mathlib.Core.Path.{◌≡◌, sym, ◌∙◌}
use mathlib.Core.Bool.{Bool, true, false, ◌&&◌}
use mathlib.Core.List.{List}
use Prim.Native.Nat.{ℕ, zero, suc, ◌+◌, ◌≤◌, ◌<◌, min}
use native.Mathlib.Nat.{min-le_left, min-le_right, not-suc-le-zero, le_of_suc-le-suc}
use native.Mathlib.Omega.{arith}
use lib.ListN.{get_or, replicate}
use Rattle.rules.specs.Words.{each, values, changed}
use Rattle.rules.specs.Names.{variables, max_stations}
use Rattle.rules.specs.Records.{Record}
use Rattle.rules.specs.List.{sound_list}
use Rattle.rules.specs.State.{State, position, priority}
use Rattle.rules.specs.Turn.{yields_to, lowest_of}
use Rattle.rules.specs.Ready.{Readiness, next_step, says_ready, ready, waiting, ended, lowest}
use Rattle.rules.specs.Lights.{reads, writes, in_turn, row_of}
use Rattle.laws.proofs.Places.{each_all, each_same, get_or_values, values_same}
use Rattle.laws.proofs.Ready.{readiness_here, readiness_tells}
use Rattle.stations.specs.Places.{readiness_by}
use Rattle.stations.proofs.Known.{ready_known}
use Rattle.touches.specs.Touched.{touched, touched_by}
use Rattle.touches.proofs.Sound.{touches_so}
use Rattle.touches.specs.declared.Touched.{Touched}
use Rattle.masks.specs.declared.Masks.{Masks}
use Rattle.masks.specs.Masks.{Room, does_from, row_from, row_with, with_station, masks_from}
use Rattle.masks.proofs.Bits.{mask_same, mask_from_none, mask_from_more, mask_from_all, mask_from_small}

-- a test that holds from a place on need be made only before it
each_before : (f : ℕ → Bool) (m n : ℕ) → m ≤ n → ((i : ℕ) → m ≤ i → f i ≡ true) → each f n ≡ each f m
unfolding each
each_before f zero n within h = each_all f n (λ i l. h i (omega arith))
each_before f (suc m) zero within h = absurd (not-suc-le-zero within)
each_before f (suc m) (suc n) within h =
    rw (each_before (λ i. f (suc i)) m n (le_of_suc-le-suc within) (λ i l. h (suc i) (omega arith)))

module _ (list : List ℕ) (s : State) where
  -- whether station j's next step does this
  abbrev by_step : (Record → Bool) → ℕ → Bool
  by_step does j = touched does list (next_step list s j) (ready list s j)

  -- no station
  row_none : (does : ℕ → Record → Bool) → replicate variables 0 ≡ row_from does list s s.n
  unfolding values
  row_none does = values_same (λ v. 0) _ variables (λ v l. mask_from_none (by_step (does v)) s.n)

  pub gathered_none :
      ◌≡◌ {A = Masks}
      (record {
        ready = 0;
        in_turn = 0;
        waiting = 0;
        ended = 0;
        reads = replicate variables 0;
        writes = replicate variables 0;
      })
      (masks_from list s s.n)
  gathered_none =
      rw (
        ← row_none reads,
        ← row_none writes,
        ← mask_from_none (ready list s) s.n,
        ← mask_from_none (in_turn list s) s.n,
        ← mask_from_none (waiting list s) s.n,
        ← mask_from_none (ended list s) s.n,
      )

  -- one station more: whether it is in turn, of the readiness that was worked out. From n on none is ready, so that none of those is lower
  pub turn_known : {all : List Bool} {turn : Bool} (n j : ℕ) → min n max_stations ≡ s.n
      → all ≡ changed (λ i was. says_ready (readiness_by list s.vars (position s i))) s.n (replicate max_stations false)
      → turn ≡ (get_or all j false && lowest_of n (λ i. get_or all i false) (priority s) j)
      → turn ≡ in_turn list s j
  unfolding lowest
  turn_known {all = all} n j count is turn =
      let known = ready_known list s (omega (arith, min-le_right n max_stations)) is in
      let yields : ℕ → Bool = λ i. yields_to (get_or all i false) (priority s j) (priority s i) in
      rw (
        turn,
        known j,
        each_before yields s.n n (omega (arith, min-le_left n max_stations)) (λ i past. rw (known i, ((readiness_tells list s).of_none i past).1)),
        each_same yields (λ i. yields_to (ready list s i) (priority s j) (priority s i)) s.n (λ i l. rw (known i)),
      )

  row_more : (does : ℕ → Record → Bool) (j : ℕ) → j < s.n
      → row_with (values (λ v. by_step (does v) j) variables) (row_from does list s (j + 1)) ≡ row_from does list s j
  row_more does j within =
      values_same _ _ variables
      (λ v l.
      rw (
        get_or_values (λ i. by_step (does i) j) variables v false l,
        get_or_values (λ i. does_from (does i) list s (j + 1)) variables v 0 l,
      )
      (mask_from_more (by_step (does v)) s.n j within))

  pub gathered_more : {r masks : Masks} {j : ℕ} {case : Readiness} {turn : Bool} {t : Touched}
      → r ≡ with_station masks case turn t → j < s.n → masks ≡ masks_from list s (j + 1)
      → case ≡ readiness_by list s.vars (position s j) → turn ≡ in_turn list s j → t ≡ touched_by list (next_step list s j) (ready list s j)
      → r ≡ masks_from list s j
  unfolding ready waiting ended
  gathered_more {j = j} gathered station so_far case turn t =
      rw (
        gathered,
        so_far,
        case ∙ sym (readiness_here list s j station),
        turn,
        t,
        mask_from_more (ready list s) s.n j,
        mask_from_more (in_turn list s) s.n j,
        mask_from_more (waiting list s) s.n j,
        mask_from_more (ended list s) s.n j,
        row_more reads j,
        row_more writes j,
      )

  row_small : (does : ℕ → Record → Bool) (j v : ℕ) → s.n ≤ max_stations → v < variables → get_or (row_from does list s (j + 1)) v 0 < 128
  row_small does j v few within =
      rw (get_or_values (λ i. does_from (does i) list s (j + 1)) variables v 0 within)
      (mask_from_small (by_step (does v)) s.n j few)

  -- each mask has room for it
  pub room : (j : ℕ) → s.n ≤ max_stations → Room (masks_from list s (j + 1))
  room j few =
      record {
        ready = mask_from_small (ready list s) s.n j few;
        turn = mask_from_small (in_turn list s) s.n j few;
        waiting = mask_from_small (waiting list s) s.n j few;
        ended = mask_from_small (ended list s) s.n j few;
        reads = λ v. row_small reads j v few;
        writes = λ v. row_small writes j v few;
      }

  -- all stations
  pub row_all : (does : ℕ → Record → Bool) → sound_list list ≡ true → row_from does list s 0 ≡ row_of does list s
  row_all does sound =
      values_same _ _ variables
      (λ v l. mask_from_all (by_step (does v)) s.n ∙ mask_same _ _ s.n (λ j of_list. touches_so (does v) list s j sound))
