-- The frauds, each against what calls that meet the demands answer on "Dryer", or on a file of one or two SKIPs. Assumes nothing.
use mathlib.Core.Path.{◌≡◌, refl, sym, ap, ◌∙◌}
use mathlib.Core.Logic.{◌≢◌}
use mathlib.Core.Bool.{true, false, false≢true}
use mathlib.Core.List.{List, [], ◌∷◌, ◌++◌}
use mathlib.Core.Option.{none, some}
use Prim.Native.Nat.{ℕ, ◌+◌, ◌*◌, ◌/◌, ◌%◌, ◌<◌}
use native.Mathlib.Omega.{arith}
use borrow.Author.Tests.{eqb-true, eqb-false, eq-eqb}
use lib.Dec.{eqb}
use lib.ListN.{get_or, replicate}
use lib.IntN.{ℤ, pos}
use Rattle.rules.specs.Words.{each, first, tally, mask, values, changed, written, Answer, judge}
use Rattle.rules.specs.Names.{STATION, SKIP, NOT_READY, ENDED, max_kept, kept_every, kept_length}
use Rattle.rules.specs.Records.{Pick, pick_at, record_from, list_record_at}
use Rattle.rules.specs.Fields.{rules_of, fields_right}
use Rattle.rules.specs.Shape.{stride, wrong_at, walked, well_shaped, too_deep_at}
use Rattle.rules.specs.Check.{wrong_length, field_place, station_count, depth_place, check}
use Rattle.rules.specs.Trees.{parts_of, stations_of, leading_sets, initial_part, size}
use Rattle.rules.specs.Build.{laid, inits, bodies, list_of, bytes_of, Built, build}
use Rattle.rules.specs.List.{stations, initials_after, is_at, init_right, initial_right, outside_targets, inside_target, inside_targets, later_right, sound_list}
use Rattle.rules.specs.State.{State, zeros, priority, count, few_low, empty_at, sound_state}
use Rattle.rules.specs.Lent.{Lent}
use Rattle.rules.specs.Kept.{kept_offset, encoded, kept_state, keep}
use Rattle.rules.specs.Values.{set_value, holds}
use Rattle.rules.specs.Start.{initial_run, started, start_records, Started, start}
use Rattle.rules.specs.Ready.{readiness_at, readiness, ended, waiting, ready, lowest}
use Rattle.rules.specs.Move.{body_run, step_vars, step_position}
use Rattle.rules.specs.Step.{charge, counts_after, stepped, picked, Stepped, step}
use Rattle.rules.specs.Run.{Ran, steps_from, run}
use Rattle.rules.specs.Undo.{Undone}
use Rattle.rules.specs.Lights.{reads, writes, led_to, body, some_of, touches, Lights, lights}
use Rattle.rules.specs.Calls.{Seven}
use Rattle.rules.specs.History.{Call, START, STEP, UNDO, Steps, begun, taken, Now, stepped_on, called, calls_from, history}
use Rattle.laws.proofs.Choice.{by_test}
use Rattle.laws.proofs.Ready.{ready_alone}
use Rattle.laws.proofs.Told.{step_tells}
use Rattle.lit.proofs.Shown.{lights_show}
use Rattle.lit.proofs.Only.{shows_only}
use Rattle.laws.specs.Passed.{Known}
use Rattle.fair.specs.Sound.{Held}
use Rattle.fair.proofs.Kept.{step_sound}
use Rattle.fair.proofs.Taken.{step_taken}
use Rattle.kept.specs.Keeps.{HasPlace}
use Rattle.kept.proofs.Back.{kept_back}
use Rattle.demands.specs.Order.{before_steps}
use Rattle.demands.specs.Runs.{Singles, one_more}
use Rattle.demands.specs.Demands.{Demand2}
use Rattle.frauds.specs.Frauds.{Remembering, AsAsked, Keeps, ByDemand2, WithTests}
use Rattle.demands.proofs.Unrefused.{start_same, step_same, singles_ruled, run_same}
use Rattle.demands.proofs.Only.{no_other}

-- records with nothing but their kinds
abbrev plain : List ℕ → List ℕ
plain [] = []
plain (kind ∷ kinds) = (kind ∷ replicate 7 0) ++ plain kinds

-- STATION, SKIP
abbrev one_skip : List ℕ
one_skip = plain (STATION ∷ SKIP ∷ [])

-- STATION, SKIP, SKIP
abbrev two_skips : List ℕ
two_skips = plain (STATION ∷ SKIP ∷ SKIP ∷ [])

-- the seven records of Dryer's list
abbrev list : List ℕ
list =
    (16 ∷ 0 ∷ 0 ∷ 0 ∷ 0 ∷ 0 ∷ 0 ∷ 0 ∷ 0 ∷ 0 ∷ 2 ∷ 0 ∷ 0 ∷ 0 ∷ 0 ∷ 0 ∷ [])
    ++ (16 ∷ 1 ∷ 0 ∷ 0 ∷ 0 ∷ 0 ∷ 0 ∷ 0 ∷ 1 ∷ 0 ∷ 4 ∷ 0 ∷ 0 ∷ 0 ∷ 0 ∷ 0 ∷ [])
    ++ (3 ∷ 0 ∷ 0 ∷ 0 ∷ 1 ∷ 0 ∷ 0 ∷ 0 ∷ 0 ∷ 0 ∷ 3 ∷ 0 ∷ 0 ∷ 0 ∷ 0 ∷ 0 ∷ [])
    ++ (17 ∷ 0 ∷ 0 ∷ 0 ∷ 0 ∷ 0 ∷ 0 ∷ 0 ∷ 0 ∷ 0 ∷ 0 ∷ 0 ∷ 0 ∷ 0 ∷ 0 ∷ 0 ∷ [])
    ++ (9 ∷ 0 ∷ 0 ∷ 0 ∷ 1 ∷ 0 ∷ 0 ∷ 0 ∷ 1 ∷ 0 ∷ 5 ∷ 0 ∷ 6 ∷ 0 ∷ 0 ∷ 0 ∷ [])
    ++ (3 ∷ 0 ∷ 0 ∷ 2 ∷ 1 ∷ 0 ∷ 0 ∷ 0 ∷ 1 ∷ 1 ∷ 0 ∷ 0 ∷ 0 ∷ 0 ∷ 0 ∷ 0 ∷ [])
    ++ (17 ∷ 0 ∷ 0 ∷ 0 ∷ 0 ∷ 0 ∷ 0 ∷ 0 ∷ 1 ∷ 0 ∷ 0 ∷ 0 ∷ 0 ∷ 0 ∷ 0 ∷ 0 ∷ [])

-- its states with B = 1 and no step, one and two; station 0's step has reset 1
abbrev dryer : ℕ → ℕ → ℕ → ℤ → ℕ → State
dryer v first second priority m =
    record {
      vars = v ∷ replicate 31 0;
      positions = first ∷ second ∷ replicate 6 0;
      priorities = priority ∷ replicate 7 (pos 0);
      counts = replicate 8 0;
      n = 2;
      b = 1;
      m = m;
    }

abbrev s₀ : State
s₀ = dryer 0 2 4 (pos 0) 0

abbrev s₁ : State
s₁ = dryer 1 3 4 (pos 1) 1

abbrev s₂ : State
s₂ = dryer 2 3 6 (pos 1) 2

abbrev pick : ℕ → ℕ → Pick
pick station reset = record { station = station; reset = reset }

-- a log with room, and room for the kept states, whose bytes are none that a call writes; after the start, and after one step and two
abbrev kept_junk : List ℕ
kept_junk = replicate (kept_length * max_kept) 9

abbrev junk : Lent
junk = record { log = replicate 8 9; kept = kept_junk }

abbrev l₀ : Lent
l₀ = record { log = 0 ∷ 0 ∷ 1 ∷ 0 ∷ 9 ∷ 9 ∷ 9 ∷ 9 ∷ []; kept = kept_junk }

abbrev l₁ : Lent
l₁ = record { log = 0 ∷ 0 ∷ 1 ∷ 0 ∷ 0 ∷ 1 ∷ 9 ∷ 9 ∷ []; kept = kept_junk }

abbrev l₂ : Lent
l₂ = record { log = 0 ∷ 0 ∷ 1 ∷ 0 ∷ 0 ∷ 1 ∷ 1 ∷ 0 ∷ []; kept = kept_junk }

abbrev resets : List ℕ
resets = 0 ∷ 0 ∷ []

abbrev picks : List ℕ
picks = 0 ∷ 1 ∷ 1 ∷ 0 ∷ []

-- what stands after them
abbrev t₀ : Steps
t₀ = begun 1 resets s₀

abbrev t₁ : Steps
t₁ = taken t₀ (pick 0 1) s₁

abbrev t₂ : Steps
t₂ = taken t₁ (pick 1 0) s₂

-- and so how things are
abbrev fresh : Now
fresh = record { state = zeros; lent = junk; standing = none }

abbrev n₀ : Now
n₀ = record { state = s₀; lent = l₀; standing = some t₀ }

abbrev n₁ : Now
n₁ = record { state = s₁; lent = l₁; standing = some t₁ }

abbrev n₂ : Now
n₂ = record { state = s₂; lent = l₂; standing = some t₂ }

abbrev calls : List Call
calls = START 1 resets ∷ STEP (pick 0 1) ∷ []

-- what the rules answer
record Computed : Type 0 where
  begins : start list 1 resets junk ≡ record { number = 0; state = s₀; lent = l₀ }
  begins_0 : (start list 0 resets junk).number ≡ 0
  first_step : step list s₀ l₀ (pick 0 1) ≡ record { number = 0; state = s₁; lent = l₁ }
  second_step : step list s₁ l₁ (pick 1 0) ≡ record { number = 0; state = s₂; lent = l₂ }
  one_run : run list s₀ l₀ picks 1 ≡ record { number = 0; state = s₁; steps = 1; lent = l₁ }
  both_run : run list s₀ l₀ picks 5 ≡ record { number = 0; state = s₂; steps = 2; lent = l₂ }
  before : before_steps list s₀ picks ≡ 0
  lit_0 : (lights list s₀).number ≡ 0
  ready_0 : (lights list s₀).ready ≡ 1
  lit_1 : (lights list s₁).number ≡ 0
  ready_1 : (lights list s₁).ready ≡ 2
  written_0 : get_or (get_or (lights list s₀).rows 1 []) 0 0 ≡ 1
  written_1 : get_or (get_or (lights list s₁).rows 1 []) 0 0 ≡ 2
  waits : ready list s₀ 1 ≡ false
  released : ready list s₁ 1 ≡ true
  ended_step : (step list s₁ l₁ (pick 0 0)).number ≡ 16
  empty : check [] ≡ record { number = 1; place = 0 }
  accepted : check one_skip ≡ record { number = 0; place = 0 }
  unfinished : check (plain (STATION ∷ [])) ≡ record { number = 4; place = 1 }
  one_built : (build one_skip (replicate 48 9)).number ≡ 0
  one_count : (build one_skip (replicate 48 9)).count ≡ 3
  one_byte : get_or (build one_skip (replicate 48 9)).buffer 0 0 ≡ 16
  two_built : (build two_skips (replicate 64 9)).number ≡ 0
  two_count : (build two_skips (replicate 64 9)).count ≡ 4

computed : Computed
unfolding each first tally mask values changed written judge record_from list_record_at rules_of fields_right stride wrong_at walked well_shaped too_deep_at check wrong_length field_place station_count depth_place parts_of stations_of leading_sets initial_part size laid inits bodies list_of bytes_of build stations initials_after is_at init_right initial_right outside_targets inside_target inside_targets later_right sound_list few_low empty_at sound_state set_value holds initial_run started start_records start readiness_at readiness ended waiting ready lowest body_run step_vars step_position charge counts_after stepped picked keep step steps_from run reads writes led_to body some_of touches lights
computed =
    record {
      begins = refl;
      begins_0 = refl;
      first_step = refl;
      second_step = refl;
      one_run = refl;
      both_run = refl;
      before = refl;
      lit_0 = refl;
      ready_0 = refl;
      lit_1 = refl;
      ready_1 = refl;
      written_0 = refl;
      written_1 = refl;
      waits = refl;
      released = refl;
      ended_step = refl;
      empty = refl;
      accepted = refl;
      unfinished = refl;
      one_built = refl;
      one_count = refl;
      one_byte = refl;
      two_built = refl;
      two_count = refl;
    }

held : (v first second m : ℕ) (z : ℤ) → Held (dryer v first second z m)
held v first second m z = record { vars = refl; positions = refl; priorities = refl; counts = refl }

-- two states that differ in their m
apart : {s t : State} → s ≡ t → s.m ≢ t.m → ⊥
apart e d = d (ap (λ (u : State). u.m) e)

-- what calls that meet demand 2 answer there
module _ (bench : Seven) (two : Demand2 bench) where
  begins : bench.start list 1 resets junk ≡ record { number = 0; state = s₀; lent = l₀ }
  begins = start_same bench two list 1 resets junk (ap (λ (a : Started). a.number) computed.begins) ∙ computed.begins

  first_step : bench.step list s₀ l₀ (pick 0 1) ≡ record { number = 0; state = s₁; lent = l₁ }
  first_step =
      step_same bench two list s₀ l₀ (pick 0 1) (held 0 2 4 0 (pos 0)) (ap (λ (a : Stepped). a.number) computed.first_step) ∙ computed.first_step

  second_step : bench.step list s₁ l₁ (pick 1 0) ≡ record { number = 0; state = s₂; lent = l₂ }
  second_step =
      step_same bench two list s₁ l₁ (pick 1 0) (held 1 3 4 1 (pos 1)) (ap (λ (a : Stepped). a.number) computed.second_step) ∙ computed.second_step

  one_run : bench.run list s₀ l₀ picks 1 ≡ record { number = 0; state = s₁; steps = 1; lent = l₁ }
  one_run = run_same bench two list s₀ l₀ picks 1 (held 0 2 4 0 (pos 0)) (ap (λ (a : Ran). a.number) computed.one_run) ∙ computed.one_run

  both_run : bench.run list s₀ l₀ picks 5 ≡ record { number = 0; state = s₂; steps = 2; lent = l₂ }
  both_run = run_same bench two list s₀ l₀ picks 5 (held 0 2 4 0 (pos 0)) (ap (λ (a : Ran). a.number) computed.both_run) ∙ computed.both_run

  -- a start, one step, and two; and one step back
  goes : Call → Now → Now
  goes c now = called bench list now c

  started_there : goes (START 1 resets) fresh ≡ n₀
  unfolding goes called
  started_there = rw begins

  stepped_once : goes (STEP (pick 0 1)) n₀ ≡ n₁
  unfolding goes called stepped_on
  stepped_once = rw first_step

  stepped_twice : goes (STEP (pick 1 0)) n₁ ≡ n₂
  unfolding goes called stepped_on
  stepped_twice = rw second_step

  after_start : history bench list zeros junk (START 1 resets ∷ []) ≡ n₀
  unfolding goes calls_from
  after_start = started_there

  after_one : history bench list zeros junk calls ≡ n₁
  unfolding goes calls_from
  after_one = ap (goes (STEP (pick 0 1))) started_there ∙ stepped_once

  after_two : history bench list zeros junk (calls ++ (STEP (pick 1 0) ∷ [])) ≡ n₂
  unfolding goes calls_from
  after_two = ap (goes (STEP (pick 1 0))) after_one ∙ stepped_twice

  back_once : bench.undo list s₁ l₁ ≡ record { number = 0; state = s₀ }
  back_once = rw after_one at (two.undo_below list zeros junk calls t₁ (rw after_one)).undone

  back_twice : bench.undo list s₂ l₂ ≡ record { number = 0; state = s₁ }
  back_twice = rw after_two at (two.undo_below list zeros junk (calls ++ (STEP (pick 1 0) ∷ [])) t₂ (rw after_two)).undone

  gone_back : goes UNDO n₁ ≡ record { state = s₀; lent = l₁; standing = some t₀ }
  unfolding goes called
  gone_back = rw back_once

  after_back : history bench list zeros junk (calls ++ (UNDO ∷ [])) ≡ record { state = s₀; lent = l₁; standing = some t₀ }
  unfolding goes calls_from
  after_back = ap (goes UNDO) after_one ∙ gone_back

  lit_0 : bench.lights list s₀ ≡ lights list s₀
  lit_0 =
      let lit = rw after_start at (two.lights_fresh list zeros junk (START 1 resets ∷ []) t₀ (rw after_start)).lit in
      shows_only list s₀ (bench.lights list s₀) (lights list s₀) (lit.0 ∙ sym computed.lit_0) lit.1 (lights_show list s₀ computed.lit_0)

  lit_1 : bench.lights list s₁ ≡ lights list s₁
  lit_1 =
      let lit = rw after_one at (two.lights_fresh list zeros junk calls t₁ (rw after_one)).lit in
      shows_only list s₁ (bench.lights list s₁) (lights list s₁) (lit.0 ∙ sym computed.lit_1) lit.1 (lights_show list s₁ computed.lit_1)

  number_0 : (bench.lights list s₀).number ≡ 0
  number_0 = ap (λ (a : Lights). a.number) lit_0 ∙ computed.lit_0

  number_1 : (bench.lights list s₁).number ≡ 0
  number_1 = ap (λ (a : Lights). a.number) lit_1 ∙ computed.lit_1

  ready_0 : (bench.lights list s₀).ready ≡ 1
  ready_0 = ap (λ (a : Lights). a.ready) lit_0 ∙ computed.ready_0

  ready_1 : (bench.lights list s₁).ready ≡ 2
  ready_1 = ap (λ (a : Lights). a.ready) lit_1 ∙ computed.ready_1

  -- one answer cannot show both the state after the step and the one before it
  kept : (lit : Remembering) → AsAsked bench lit → Keeps bench lit (λ a. a.ready) → ⊥
  kept lit fresh keeps =
      let forward = rw after_one at (fresh list zeros junk calls t₁ (rw after_one)) in
      let back = rw after_back at (fresh list zeros junk (calls ++ (UNDO ∷ [])) t₀ (rw after_back)) in
      let on = (forward.1.on_ready 1).1 (omega arith, computed.released) in
      let same = rw (sym (keeps list zeros junk calls t₀ (pick 0 1) s₁ (rw after_one))) at on in
      false≢true (sym computed.waits ∙ ((back.1.on_ready 1).0 same).1)

  rows_kept : (lit : Remembering) → AsAsked bench lit → Keeps bench lit (λ a. a.rows) → ⊥
  rows_kept lit fresh keeps =
      let forward = rw after_one at (fresh list zeros junk calls t₁ (rw after_one)) in
      let back = rw after_back at (fresh list zeros junk (calls ++ (UNDO ∷ [])) t₀ (rw after_back)) in
      let there = shows_only list s₁ _ _ (forward.0 ∙ sym computed.lit_1) forward.1 (lights_show list s₁ computed.lit_1) in
      let here = shows_only list s₀ _ _ (back.0 ∙ sym computed.lit_0) back.1 (lights_show list s₀ computed.lit_0) in
      let same = rw (here, there) at (keeps list zeros junk calls t₀ (pick 0 1) s₁ (rw after_one)) in
      let written = ap (λ (rows : List (List ℕ)). get_or (get_or rows 1 []) 0 0) same in
      omega (arith, sym computed.written_0 ∙ written ∙ computed.written_1)

  -- each single step is one step more
  counted : {list picks : List ℕ} {s : State} {lent : Lent} {k : ℕ} {t : State} {left : Lent} → Held s → Singles bench list picks s lent k t left
      → t.m ≡ s.m + k
  counted h Singles.none = omega arith
  counted {list} {picks} h (one_more {k} {t} {left} x e) =
      let there = (singles_ruled bench two h x).1 in
      omega (arith, counted h x, (two.step_does list t left (pick_at picks k) there e).0.m_is)

  invents : (list : List ℕ) (s : State) (lent : Lent) (picks : List ℕ) (most k : ℕ) → Held s
      → Singles bench list picks s lent k (bench.run list s lent picks most).state (bench.run list s lent picks most).lent
      → (bench.run list s lent picks most).steps ≢ k → ⊥
  invents list s lent picks most k h x other =
      let r = two.run_stops list s lent picks most in
      let c = counted h x in
      by_test (eqb (before_steps list s picks) 0)
      (λ e. other (omega (arith, c, counted h (r.stops (eqb-true _ 0 e)).singles)))
      (λ e.
      let first = r.refused_first (eqb-false _ 0 e) in
      other (omega (arith, c, ap (λ (a : Ran). a.steps) first, ap (λ (a : Ran). a.state.m) first)))

  -- a station that was not ready keeps its number and its count
  stays : (list : List ℕ) (s : State) (lent : Lent) (p : Pick) → Held s → (bench.step list s lent p).number ≡ 0
      → (j : ℕ) → j < s.n → ready list s j ≡ false
      → (priority (bench.step list s lent p).state j ≡ priority s j) × (count (bench.step list s lent p).state j ≡ count s j)
  stays list s lent p h e j l r =
      let d = (two.step_does list s lent p h e).0 in
      let other : j ≢ p.station = λ same. false≢true (sym r ∙ rw same d.chosen.enabled) in
      (d.priorities.stays j l other r, d.counts.stays j l other r)

not_ready : (list : List ℕ) (s : State) (j : ℕ) → j < s.n → waiting list s j ≡ true → ready list s j ≡ false
not_ready list s j l w = by_test (ready list s j) (λ r. absurd (false≢true (sym (ready_alone list s j l r).1 ∙ w))) (λ r. r)

-- a step that reaches a multiple of 64 leaves its own state in the kept place: it was there before if nothing was written, and it is not the
-- state before
module _ (bench : Seven) (two : Demand2 bench) (list : List ℕ) (s : State) (lent : Lent) (p : Pick) (h : Held s)
    (e : (bench.step list s lent p).number ≡ 0) (whole : (s.m + 1) % kept_every ≡ 0) where
  abbrev place : ℕ
  place = (s.m + 1) / kept_every

  keeping : ((bench.step list s lent p).lent.kept ≡ lent.kept → kept_state lent.kept place ≡ (bench.step list s lent p).state)
      × ((bench.step list s lent p).lent.kept ≡ written lent.kept (kept_offset place) (encoded s) → ⊥)
  unfolding keep
  keeping =
      let after = (bench.step list s lent p).state in
      let (can, chosen, reset) = (two.taken_when list s lent p).0 e in
      let same = step_same bench two list s lent p h ((step_taken list s lent p).1 (can, chosen, reset)) in
      let (does, left) = two.step_does list s lent p h e in
      let room : HasPlace lent.kept place = omega (arith, can.steps_left, can.kept_room) in
      let sound : sound_state list after ≡ true = rw (ap (λ (a : Stepped). a.state) same) (step_sound list s lent p h can.of_state) in
      let known : Known list after = record { of_list = can.of_list; of_state = sound } in
      let before : Known list s = record { of_list = can.of_list; of_state = can.of_state } in
      let written_there : (bench.step list s lent p).lent.kept ≡ written lent.kept (kept_offset place) (encoded after) =
      ap (λ (l : Lent). l.kept) left ∙ rw (does.m_is, eq-eqb ((s.m + 1) % kept_every) 0 whole) in
      let there = kept_back list lent.kept after place does.held known room in (
        λ none. rw (sym written_there ∙ none) at there.state_is,
        λ old.
            let kept_before = kept_back list lent.kept s place h before room in
            let s_is : s ≡ after = sym kept_before.state_is ∙ rw (sym old ∙ written_there) there.state_is in
            let m : s.m ≡ s.m + 1 = ap (λ (t : State). t.m) s_is ∙ does.m_is in
            omega arith,
      )

pub by_demand_2 : ByDemand2
by_demand_2 bench two =
    let starts = begins bench two in
    let first = first_step bench two in
    let second = second_step bench two in
    record {
      start_refuses = λ h. h list 1 resets junk (ap (λ (a : Started). a.number) starts);
      step_refuses = λ h. h list s₀ l₀ (pick 0 1) (ap (λ (a : Stepped). a.number) first);
      run_refuses = λ h. h list s₀ l₀ picks 5 (omega arith) (omega arith) (ap (λ (a : Ran). a.number) (both_run bench two));
      undo_refuses = λ h. h list s₁ l₁ (ap (λ (a : Undone). a.number) (back_once bench two));
      lights_refuses = λ h. h list s₀ (number_0 bench two);
      start_constant = λ t h.
          let other = start_same bench two list 0 resets junk computed.begins_0 in
          let zero = ap (λ (a : Started). a.number) other ∙ computed.begins_0 in
          let x = h list 1 resets junk (ap (λ (a : Started). a.number) starts) in
          let e : ◌≡◌ {A = ℕ} 1 0 =
          sym (ap (λ (a : Started). a.state.b) starts) ∙ ap (λ (s : State). s.b) (x ∙ sym (h list 0 resets junk zero))
          ∙ (two.start_begins list 0 resets junk zero).0.b_is in
          omega (arith, e);
      step_constant = λ t h.
          let x = h list s₀ l₀ (pick 0 1) (ap (λ (a : Stepped). a.number) first) in
          let y = h list s₁ l₁ (pick 1 0) (ap (λ (a : Stepped). a.number) second) in
          apart (sym (ap (λ (a : Stepped). a.state) first) ∙ x ∙ sym y ∙ ap (λ (a : Stepped). a.state) second) (omega arith);
      run_constant = λ t k h.
          let one = one_run bench two in
          let both = both_run bench two in
          let x = (h list s₀ l₀ picks 1 (omega (arith, ap (λ (a : Ran). a.steps) one)) (ap (λ (a : Ran). a.number) one)).1 in
          let y = (h list s₀ l₀ picks 5 (omega (arith, ap (λ (a : Ran). a.steps) both)) (ap (λ (a : Ran). a.number) both)).1 in
          let e : ◌≡◌ {A = ℕ} 1 2 = sym (ap (λ (a : Ran). a.steps) one) ∙ x ∙ sym y ∙ ap (λ (a : Ran). a.steps) both in
          omega (arith, e);
      undo_constant = λ t h.
          let x = h list s₁ l₁ (ap (λ (a : Undone). a.number) (back_once bench two)) in
          let y = h list s₂ l₂ (ap (λ (a : Undone). a.number) (back_twice bench two)) in
          apart (sym (ap (λ (a : Undone). a.state) (back_once bench two)) ∙ x ∙ sym y ∙ ap (λ (a : Undone). a.state) (back_twice bench two)) (omega arith);
      lights_constant = λ a h.
          let e : ◌≡◌ {A = ℕ} 1 2 =
          sym (ready_0 bench two) ∙ ap (λ (a : Lights). a.ready) (h list s₀ (number_0 bench two) ∙ sym (h list s₁ (number_1 bench two))) ∙ ready_1 bench two in
          omega (arith, e);
      start_writes_nothing = λ h.
          let e : ◌≡◌ {A = ℕ} 9 0 = ap (λ (l : Lent). get_or l.log 0 0) (sym (h list 1 resets junk) ∙ ap (λ (a : Started). a.lent) starts) in
          omega (arith, e);
      step_writes_nothing = λ h.
          let e : ◌≡◌ {A = ℕ} 9 0 = ap (λ (l : Lent). get_or l.log 4 0) (sym (h list s₀ l₀ (pick 0 1)) ∙ ap (λ (a : Stepped). a.lent) first) in
          omega (arith, e);
      run_writes_nothing = λ h.
          let e : ◌≡◌ {A = ℕ} 9 0 = ap (λ (l : Lent). get_or l.log 4 0) (sym (h list s₀ l₀ picks 5) ∙ ap (λ (a : Ran). a.lent) (both_run bench two)) in
          omega (arith, e);
      step_only_m = λ h.
          let e : ◌≡◌ {A = ℕ} 1 2 = ap (λ (s : State). get_or s.vars 0 0)
          (sym (h list s₁ l₁ (pick 1 0) (omega arith) (ap (λ (a : Stepped). a.number) second)) ∙ ap (λ (a : Stepped). a.state) second) in
          omega (arith, e);
      run_only_m = λ h.
          let both = both_run bench two in
          let made = h list s₀ l₀ picks 5 refl (omega (arith, ap (λ (a : Ran). a.steps) both)) (ap (λ (a : Ran). a.number) both) in
          let e : ◌≡◌ {A = ℕ} 1 2 =
          sym (ap (λ (a : Stepped). get_or a.state.vars 0 0) first) ∙ sym (ap (λ (s : State). get_or s.vars 0 0) made)
          ∙ ap (λ (a : Ran). get_or a.state.vars 0 0) both in
          omega (arith, e);
      run_invents = invents bench two;
      run_idle = λ h.
          let e : ◌≡◌ {A = ℕ} 0 2 = sym (h list s₀ l₀ picks 5 computed.before) ∙ ap (λ (a : Ran). a.steps) (both_run bench two) in
          omega (arith, e);
      lights_dark = λ h.
          let e : ◌≡◌ {A = ℕ} 0 1 = sym (ap (λ (a : Lights). a.ready) (h list s₀ (number_0 bench two))) ∙ ready_0 bench two in
          omega (arith, e);
      lights_kept = kept bench two;
      rows_kept = rows_kept bench two;
      waiting_writes = λ list s answered j l w v within lit.
          false≢true (sym ((two.waiting_lit list s answered j l w).writes_none v within) ∙ lit);
      waiting_reads = λ list s answered j l w v within lit other. other (((two.waiting_lit list s answered j l w).reads_condition v within).0 lit);
      waiting_misses = λ list s answered j l w v within dark asks.
          false≢true (sym dark ∙ ((two.waiting_lit list s answered j l w).reads_condition v within).1 asks);
      undo_priorities = λ list s lent calls steps stands other.
          other (ap (λ (a : Undone). a.state.priorities) (two.undo_below list s lent calls steps stands).undone);
      waiting_charged = λ list s lent p h e j l w other. other (stays bench two list s lent p h e j l (not_ready list s j l w)).0;
      judged_late = λ list s lent p h e j l r after other. other (stays bench two list s lent p h e j l r).0;
      undo_counts = λ list s lent calls steps stands other.
          other (ap (λ (a : Undone). a.state.counts) (two.undo_below list s lent calls steps stands).undone);
      unready_counted = λ list s lent p h e j l r other. other (stays bench two list s lent p h e j l r).1;
      picked_uncleared = λ list s lent p h e other. other (two.step_does list s lent p h e).0.counts.picked;
      passed_uncounted = λ list s lent p h e j l d r other. other ((two.step_does list s lent p h e).0.counts.passed j l d r);
      ended_untold = λ h. h list s₁ l₁ (pick 0 0) ((two.step_tells list s₁ l₁ (pick 0 0)).ended_when.1 ((step_tells list s₁ l₁ (pick 0 0)).ended_when.0 computed.ended_step));
      waiting_ended = λ list s lent p w h.
          let t = two.step_tells list s lent p in
          let e : NOT_READY ≡ ENDED = sym (t.waiting_when.1 ((t.ended_when.0 h).0, w)) ∙ h in
          omega (arith, e);
      keeps_old = λ list s lent p h e whole old. (keeping bench two list s lent p h e whole).1 old;
      keeps_none = λ list s lent p h e whole other none. other ((keeping bench two list s lent p h e whole).0 none);
      another_b = λ list b resets lent e other. other (two.start_begins list b resets lent e).0.b_is;
    }

pub with_tests : WithTests
with_tests bench one two =
    let same = no_other bench one two in
    let w = computed in
    let one_built = same.build one_skip (replicate 48 9) in
    let two_built = same.build two_skips (replicate 64 9) in
    record {
      check_refuses = λ h. h one_skip (ap (λ (a : Answer). a.number) (same.check one_skip ∙ w.accepted));
      build_refuses = λ h. h one_skip (replicate 48 9) (ap (λ (a : Built). a.number) one_built ∙ w.one_built);
      check_constant = λ a h.
          let e : ◌≡◌ {A = ℕ} 1 0 = ap (λ (a : Answer). a.number)
          (sym w.empty ∙ sym (same.check []) ∙ h [] ∙ sym (h one_skip) ∙ same.check one_skip ∙ w.accepted) in
          omega (arith, e);
      check_one_place = λ place h.
          let short = same.check [] ∙ w.empty in
          let cut = same.check (plain (STATION ∷ [])) ∙ w.unfinished in
          let x = h [] (λ z. let e : ◌≡◌ {A = ℕ} 1 0 = sym (ap (λ (a : Answer). a.number) short) ∙ z in omega (arith, e)) in
          let y = h (plain (STATION ∷ [])) (λ z. let e : ◌≡◌ {A = ℕ} 4 0 = sym (ap (λ (a : Answer). a.number) cut) ∙ z in omega (arith, e)) in
          let e : ◌≡◌ {A = ℕ} 0 1 = sym (ap (λ (a : Answer). a.place) short) ∙ x ∙ sym y ∙ ap (λ (a : Answer). a.place) cut in
          omega (arith, e);
      build_constant = λ count h.
          let x = h one_skip (replicate 48 9) (ap (λ (a : Built). a.number) one_built ∙ w.one_built) in
          let y = h two_skips (replicate 64 9) (ap (λ (a : Built). a.number) two_built ∙ w.two_built) in
          let e : ◌≡◌ {A = ℕ} 3 4 =
          sym w.one_count ∙ sym (ap (λ (a : Built). a.count) one_built) ∙ x ∙ sym y ∙ ap (λ (a : Built). a.count) two_built ∙ w.two_count in
          omega (arith, e);
      build_writes_nothing = λ h.
          let e : ◌≡◌ {A = ℕ} 9 16 =
          sym (ap (λ (l : List ℕ). get_or l 0 0) (h one_skip (replicate 48 9))) ∙ ap (λ (a : Built). get_or a.buffer 0 0) one_built ∙ w.one_byte in
          omega (arith, e);
      another_list = λ file buffer e other. other (two.build_lays file buffer e).list_is;
    }
