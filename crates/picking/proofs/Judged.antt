-- What a pick asks of the stations, answered from their readiness before it, which is worked out once. Assumes nothing.
use Rattle.std.specs.Prelude.{if◌then◌else◌}
use Prim.Native.Nat.{ℕ, ◌≤◌, ◌<◌, min}
use mathlib.Core.Path.{◌≡◌, refl, sym, ap, ◌∙◌}
use mathlib.Core.Bool.{Bool, true, false, not, false≢true}
use mathlib.Core.List.{List, [], ◌∷◌}
use native.Mathlib.Nat.{min-le_right}
use native.Mathlib.Omega.{arith}
use lib.Dec.{eqb, ltb}
use lib.IntN.{ℤ, pos}
use lib.ListN.{get_or, replicate}
use borrow.Author.Tests.{le-leb, ne_eqb}
use Rattle.rules.specs.Words.{each, changed, judge, refusal, ◌refuses◌at◌}
use Rattle.rules.specs.Names.{COMPONENT, TURN, RESET, max_stations}
use Rattle.rules.specs.Records.{Pick}
use Rattle.rules.specs.State.{State, position_in, priority_in}
use Rattle.rules.specs.Turn.{yields_to}
use Rattle.rules.specs.Ready.{Readiness, told, readiness, ready, lowest}
use Rattle.rules.specs.Step.{pick_tests}
use Rattle.laws.specs.Narrow.{narrow}
use Rattle.laws.proofs.Places.{each_same}
use Rattle.laws.proofs.Changed.{changed_fewer}
use Rattle.laws.proofs.Ready.{readiness_here, readiness_tells}
use Rattle.laws.proofs.Told.{ready_number, pick_told}
use Rattle.charging.specs.Charge.{held_charge, held_count}
use Rattle.stations.specs.Places.{readiness_from, ready_from}
use Rattle.stations.proofs.Known.{ready_known}
use Rattle.picking.specs.Took.{state_of, took, picked}

module _ (list : List ℕ) (given : State) (p : Pick) where
  -- what a pick sees of the state
  abbrev pub s : State
  s = state_of given.vars given.positions given.priorities given.counts given.n given.b

  -- whether station j is ready where it stands
  abbrev ready_there : ℕ → Bool
  ready_there j = ready_from list given.vars (position_in given.positions j)

  -- a pick that is refused leaves the state as it is
  pub refused_is : {number : ℕ} → refusal (pick_tests (narrow list) s p) ≡ number → eqb number 0 ≡ false
      → record { number = number; state = given } ≡ picked (narrow list) given p
  unfolding took
  refused_is is not_none = rw (is, not_none)

  -- a station that the list has not
  pub absent_is : min given.n max_stations ≤ p.station → record { number = COMPONENT; state = given } ≡ picked (narrow list) given p
  unfolding judge
  absent_is past = refused_is (rw (le-leb _ _ past)) refl

  module _ {all : List Bool} (is : all ≡ changed (λ j was. ready_there j) (min given.n max_stations) (replicate max_stations false)) where
    ready_here : (j : ℕ) → get_or all j false ≡ ready (narrow list) s j
    ready_here = ready_known (narrow list) s (min-le_right given.n max_stations) is

    -- a station that the list has not is not ready
    resting : (j : ℕ) → min given.n max_stations ≤ j → get_or all j false ≡ false
    resting j l = ready_here j ∙ ((readiness_tells (narrow list) s).of_none j l).1

    -- what the readiness of a station of the list tells, by the place where it stands
    here : p.station < min given.n max_stations
        → (told (readiness (narrow list) s p.station)).number ≡ (told (readiness_from list given.vars (position_in given.positions p.station))).number
    here l = ap (λ (r : Readiness). (told r).number) (readiness_here (narrow list) s p.station l)

    -- is the refusal of its pick where it is not known to be ready
    pub refused_by : p.station < min given.n max_stations → get_or all p.station false ≡ false → {number : ℕ}
        → number ≡ (told (readiness_from list given.vars (position_in given.positions p.station))).number
        → (eqb number 0 ≡ false) × (record { number = number; state = given } ≡ picked (narrow list) given p)
    unfolding ready
    refused_by l not_ready {number} tells =
        let is : number ≡ (told (readiness (narrow list) s p.station)).number = tells ∙ sym (here l) in
        let some : eqb number 0 ≡ false = ne_eqb number 0 (λ z.
        false≢true (sym not_ready ∙ ready_here p.station ∙ (ready_number (readiness (narrow list) s p.station)).0 (sym is ∙ z))) in
        (some, refused_is (pick_told (narrow list) s p ∙ rw (← is, some)) some)

    -- the turn is the rules'
    lowest_here : each (λ j. yields_to (ready_there j) (priority_in given.priorities p.station) (priority_in given.priorities j)) (min given.n max_stations)
        ≡ lowest (narrow list) s p.station
    unfolding ready lowest
    lowest_here = each_same _ _ (min given.n max_stations) (λ j l. rw (readiness_here (narrow list) s j l))

    -- and so is the refusal of a pick, by the number that its readiness tells
    pub judged : {number : ℕ} {turn : Bool} → number ≡ (told (readiness (narrow list) s p.station)).number
        → turn ≡ each (λ j. yields_to (ready_there j) (priority_in given.priorities p.station) (priority_in given.priorities j)) (min given.n max_stations)
        → (if eqb number 0 then refusal ((not turn refuses TURN at 0) ∷ (ltb given.b p.reset refuses RESET at 0) ∷ []) else number)
        ≡ refusal (pick_tests (narrow list) s p)
    judged tells turn = rw (tells, turn ∙ lowest_here) (sym (pick_told (narrow list) s p))

    -- of a station that is ready, by its turn and the reset
    pub refused_after : p.station < min given.n max_stations → get_or all p.station false ≡ true → {turn : Bool}
        → turn ≡ each (λ j. yields_to (ready_there j) (priority_in given.priorities p.station) (priority_in given.priorities j)) (min given.n max_stations)
        → refusal (pick_tests (narrow list) s p) ≡ refusal ((not turn refuses TURN at 0) ∷ (ltb given.b p.reset refuses RESET at 0) ∷ [])
    unfolding ready
    refused_after l is_ready turn =
        let none = (ready_number (readiness (narrow list) s p.station)).1 (sym (ready_here p.station) ∙ is_ready) in
        sym (judged (sym none) turn)

    -- what all eight become is what those become that the list has, where one that is not picked and not ready stays as it is
    all_changed : {A : Type 0} (f : Bool → Bool → A → A) (xs : List A) (d : A) → ((x : A) → f false false x ≡ x) → p.station < min given.n max_stations
        → changed (λ j. f (eqb j p.station) (get_or all j false)) max_stations xs
        ≡ changed (λ j. f (eqb j p.station) (ready (narrow list) s j)) (min given.n max_stations) xs
    all_changed f xs d stays l =
        changed_fewer _ _ (min given.n max_stations) max_stations xs d (omega arith)
        (λ j below. rw (ready_here j))
        (λ j x past. rw (ne_eqb j p.station (λ e. omega arith), resting j past) (stays x))

    -- so with the charge and with the counts
    pub charged : p.station < min given.n max_stations
        → changed (λ j. held_charge (eqb j p.station) (get_or all j false) p.reset) max_stations given.priorities
        ≡ changed (λ j. held_charge (eqb j p.station) (ready (narrow list) s j) p.reset) (min given.n max_stations) given.priorities
    charged = all_changed (λ picked ready. held_charge picked ready p.reset) given.priorities (pos 0) (λ x. refl)

    pub counted : p.station < min given.n max_stations
        → changed (λ j. held_count (eqb j p.station) (get_or all j false)) max_stations given.counts
        ≡ changed (λ j. held_count (eqb j p.station) (ready (narrow list) s j)) (min given.n max_stations) given.counts
    counted = all_changed held_count given.counts 0 (λ x. refl)
