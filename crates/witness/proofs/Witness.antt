-- The witness, which the checker computes. Assumes nothing.
use mathlib.Core.Path.{◌≡◌, refl}
use mathlib.Core.Bool.{true}
use native.Mathlib.Omega.{arith}
use lib.Dec.{ltb}
use lib.ListN.{get_or, get_or-eq_default}
use borrow.Author.Tests.{ltb-true, ltb-false}
use Rattle.rules.specs.Words.{each, first, tally, mask, values, changed, joined, written, judge}
use Rattle.rules.specs.Records.{record_from, list_record_at}
use Rattle.rules.specs.Fields.{rules_of, fields_right}
use Rattle.rules.specs.Shape.{stride, wrong_at, walked, well_shaped, too_deep_at}
use Rattle.rules.specs.Check.{check, wrong_length, field_place, station_count, depth_place}
use Rattle.rules.specs.Trees.{parts_of, stations_of, leading_sets, initial_part, size}
use Rattle.rules.specs.Build.{laid, inits, bodies, list_of, bytes_of}
use Rattle.rules.specs.List.{stations, initials_after, is_at, init_right, initial_right, outside_targets, inside_target, inside_targets, later_right, sound_list}
use Rattle.rules.specs.State.{few_low, empty_at, sound_state}
use Rattle.rules.specs.Values.{set_value, holds}
use Rattle.rules.specs.Start.{initial_run, started, start_records, start}
use Rattle.rules.specs.Ready.{readiness_at, readiness, ended, waiting, ready, lowest}
use Rattle.rules.specs.Move.{body_run, step_vars, step_position}
use Rattle.rules.specs.Step.{charge, counts_after, stepped, picked, step}
use Rattle.rules.specs.Run.{steps_from, run}
use Rattle.rules.specs.Kept.{encoded, kept_state, kept_zeros, kept_right, keep}
use Rattle.rules.specs.Undo.{replay, starts_right, restarted, replayed_near, undo}
use Rattle.rules.specs.History.{stepped_on, single_steps, called, calls_from}
use Rattle.rules.specs.Passed.{passed_over}
use Rattle.reading.proofs.Passed.{accepted_is}
use Rattle.laws.proofs.Choice.{by_test}
use Rattle.laws.proofs.Places.{each_at}
use Rattle.demands.specs.Demands.{Bytes}
use Rattle.witness.specs.Witness.{pair, Met, counter, Deep}

all_bytes : each (λ i. ltb (get_or pair i 0) 256) 64 ≡ true
unfolding each
all_bytes = refl

pair_bytes : Bytes pair
pair_bytes i =
    by_test (ltb i 64) (λ y. ltb-true _ 256 (each_at (λ j. ltb (get_or pair j 0) 256) 64 all_bytes i (ltb-true i 64 y)))
    (λ y. let e : get_or pair i 0 ≡ 0 = get_or-eq_default pair 0 {n = i} (ltb-false i 64 y) in omega (arith, e))

pub met : Met
unfolding each first tally mask values changed written judge record_from list_record_at rules_of fields_right stride wrong_at walked well_shaped too_deep_at check wrong_length field_place station_count depth_place parts_of stations_of leading_sets initial_part size laid inits bodies list_of bytes_of stations initials_after is_at init_right initial_right outside_targets inside_target inside_targets later_right sound_list few_low empty_at sound_state set_value holds initial_run started start_records start readiness_at readiness ended waiting ready lowest body_run step_vars step_position charge counts_after stepped picked keep step steps_from run replay starts_right restarted replayed_near undo stepped_on single_steps called calls_from passed_over
met =
    record {
      bytes = pair_bytes;
      accepted = (accepted_is pair).0 refl;
      refused = refl;
      stood = refl;
      stepped_there = refl;
      stands = refl;
      unpicked = (λ e. omega (arith, e), (λ e. omega (arith, e), tt));
      as_often = refl;
      as_counted = refl;
    }

pub deep : Deep
unfolding each first tally mask values changed written judge record_from list_record_at rules_of fields_right stride wrong_at walked well_shaped too_deep_at check wrong_length field_place station_count depth_place parts_of stations_of leading_sets initial_part size laid inits bodies list_of bytes_of stations initials_after is_at init_right initial_right outside_targets inside_target inside_targets later_right sound_list few_low empty_at sound_state set_value holds initial_run started start_records start readiness_at readiness ended waiting ready lowest body_run step_vars step_position charge counts_after stepped picked keep step steps_from run replay starts_right restarted replayed_near undo stepped_on single_steps called calls_from passed_over joined encoded kept_state kept_zeros kept_right
deep = record { accepted = (accepted_is counter).0 refl; stands = refl; high = refl; undone = refl; counted = refl; used = refl }
