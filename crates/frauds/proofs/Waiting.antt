-- What the bounds of demand 3 shut out by themselves, and what not: charging waiting stations breaks the bound on k, as the checker computes
-- on one small list; and calls that refuse everything keep both bounds. Assumes nothing.
use mathlib.Core.Path.{◌≡◌, refl, sym, ap, ◌∙◌}
use mathlib.Core.List.{List, [], ◌∷◌, ◌++◌}
use mathlib.Core.Option.{Option, none, some}
use Prim.Native.Nat.{ℕ, ◌*◌}
use native.Mathlib.Omega.{arith}
use lib.ListN.{replicate}
use lib.IntN.{pos, neg_ℤ}
use lib.Signed.{le_z}
use Rattle.rules.specs.Words.{each, first, tally, values, changed, written, judge}
use Rattle.rules.specs.Names.{STATION, SKIP, SET, WHILE, OD, AWAIT, END, max_kept, kept_length}
use Rattle.rules.specs.Records.{Pick, record_from, list_record_at}
use Rattle.rules.specs.Fields.{rules_of, fields_right}
use Rattle.rules.specs.Shape.{stride, wrong_at, walked, well_shaped, too_deep_at}
use Rattle.rules.specs.Check.{wrong_length, field_place, station_count, depth_place, check}
use Rattle.rules.specs.Trees.{parts_of, stations_of, leading_sets, initial_part, size}
use Rattle.rules.specs.Build.{laid, inits, bodies, list_of, bytes_of}
use Rattle.rules.specs.List.{stations, initials_after, is_at, init_right, initial_right, outside_targets, inside_target, inside_targets, later_right, sound_list}
use Rattle.rules.specs.State.{zeros, priority, few_low, empty_at, sound_state}
use Rattle.rules.specs.Lent.{Lent}
use Rattle.rules.specs.Kept.{keep}
use Rattle.rules.specs.Values.{set_value, holds}
use Rattle.rules.specs.Start.{initial_run, started, start_records, start}
use Rattle.rules.specs.Ready.{readiness_at, readiness, ended, waiting, ready, lowest}
use Rattle.rules.specs.Move.{body_run, step_vars, step_position}
use Rattle.rules.specs.Step.{charge, counts_after, stepped, picked, step}
use Rattle.rules.specs.History.{Call, CHECK, BUILD, START, STEP, RUN, UNDO, LIGHTS, Steps, begun, Now, stepped_on, single_steps, called, calls_from, history}
use Rattle.reading.specs.Accepted.{Accepted}
use Rattle.reading.proofs.Passed.{accepted_is}
use Rattle.built.specs.Built.{built}
use Rattle.frauds.specs.Frauds.{charging, WaitingBreaks, idle, IdleBounds}

-- STATION; WHILE v0 = v0; SET v0 := v0+1; OD; STATION; AWAIT v0 = 1; SKIP; END
abbrev file : List ℕ
file =
    (STATION ∷ replicate 7 0) ++ (WHILE ∷ 0 ∷ 0 ∷ 4 ∷ replicate 4 0) ++ (SET ∷ 0 ∷ 0 ∷ 2 ∷ 1 ∷ replicate 3 0) ++ (OD ∷ replicate 7 0)
    ++ (STATION ∷ replicate 7 0) ++ (AWAIT ∷ 0 ∷ 0 ∷ 0 ∷ 1 ∷ replicate 3 0) ++ (SKIP ∷ replicate 7 0) ++ (END ∷ replicate 7 0)

abbrev pick : Pick
pick = record { station = 0; reset = 0 }

abbrev lent : Lent
lent = record { log = replicate 8 9; kept = replicate (kept_length * max_kept) 9 }

-- a start, and two steps of station 0, before each of which station 1 waits
abbrev now : Now
now = history charging (built file) zeros lent (START 0 (0 ∷ 0 ∷ []) ∷ STEP pick ∷ STEP pick ∷ [])

-- what stands, or a start with nothing where nothing does
abbrev standing : Option Steps → Steps
standing none = begun 0 [] zeros
standing (some steps) = steps

record Computed : Type 0 where
  accepted : Accepted file
  stands : now.standing ≡ some (standing now.standing)
  two : stations (built file) ≡ 2
  -- station 1 has come to -2
  low : tally (λ j. le_z (priority now.state j) (neg_ℤ (pos 2))) (stations (built file)) ≡ 1

computed : Computed
unfolding each first tally values changed written judge record_from list_record_at rules_of fields_right stride wrong_at walked well_shaped too_deep_at check wrong_length field_place station_count depth_place parts_of stations_of leading_sets initial_part size laid inits bodies list_of bytes_of stations initials_after is_at init_right initial_right outside_targets inside_target inside_targets later_right sound_list few_low empty_at sound_state set_value holds initial_run started start_records start readiness_at readiness ended waiting ready lowest body_run step_vars step_position charge counts_after stepped picked keep step stepped_on called calls_from
computed = record { accepted = (accepted_is file).0 refl; stands = refl; two = refl; low = refl }

pub waiting_breaks : WaitingBreaks
waiting_breaks bounds =
    let w = computed in
    let few = bounds file w.accepted zeros lent _ (standing now.standing) w.stands 2 (omega arith) (omega (arith, w.two)) in
    omega (arith, few, w.low, w.two)

idle_stays : (list : List ℕ) (before : Now) (cs : List Call) → calls_from idle list before cs ≡ before
unfolding called calls_from stepped_on single_steps
idle_stays list before [] = refl
idle_stays list before (CHECK _ ∷ cs) = idle_stays list before cs
idle_stays list before (BUILD _ _ ∷ cs) = idle_stays list before cs
idle_stays list before (START b resets ∷ cs) = idle_stays list before cs
idle_stays list before (STEP p ∷ cs) = idle_stays list before cs
idle_stays list before (RUN picks most ∷ cs) = idle_stays list before cs
idle_stays list before (UNDO ∷ cs) = idle_stays list before cs
idle_stays list before (LIGHTS ∷ cs) = idle_stays list before cs

pub idle_bounds : IdleBounds
idle_bounds list s given cs steps e =
    let nothing_stands : none ≡ some steps = ap (λ (after : Now). after.standing) (sym (idle_stays list _ cs)) ∙ e in
    absurd (let z : ◌≡◌ {A = ℕ} 0 1 = cc in omega arith)
