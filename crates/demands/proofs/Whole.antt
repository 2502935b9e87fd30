-- The three demands hold of the rules' calls, and of any that equal them. Assumes nothing.
use mathlib.Core.Path.{◌≡◌, sym, subst, fun_ext}
use Rattle.rules.specs.Calls.{Seven, ruled}
use Rattle.laws.proofs.Ready.{readiness_tells}
use Rattle.laws.proofs.Told.{step_tells}
use Rattle.lit.proofs.Shown.{lights_show}
use Rattle.lit.proofs.Split.{masks_split}
use Rattle.lit.proofs.Waiting.{waiting_lit}
use Rattle.fair.proofs.Taken.{step_taken}
use Rattle.fair.proofs.Deadlock.{no_deadlock, step_there}
use Rattle.language.proofs.Meant.{transitions_determined}
use Rattle.history.proofs.Back.{undo_below}
use Rattle.history.proofs.Written.{log_written}
use Rattle.history.proofs.Passed.{passed_over_bound}
use Rattle.history.proofs.Calls.{refused_leaves, run_single}
use Rattle.demands.specs.Demands.{Demand1, Demand2, Demand3, Demands}
use Rattle.demands.specs.Only.{Equal, Carried}
use Rattle.demands.proofs.Order.{check_order, check_shapes, build_order, start_order, step_order, undo_order, lights_order, refusal_leaves}
use Rattle.demands.proofs.Runs.{run_stops}
use Rattle.demands.proofs.Does.{build_lays, start_when, start_begins, step_does, undo_replays}
use Rattle.demands.proofs.Written.{as_written}
use Rattle.demands.proofs.Lights.{in_turn, lights_fresh}

pub demand_1 : Demand1 ruled
demand_1 =
    record {
      check_order = check_order;
      check_shapes = check_shapes;
      build_order = build_order;
      start_order = start_order;
      step_order = step_order;
      undo_order = undo_order;
      lights_order = lights_order;
      leaves = refusal_leaves;
      run_stops = run_stops;
      history_kept = refused_leaves;
      steps_stand = run_single;
    }

pub demand_2 : Demand2 ruled
demand_2 =
    record {
      taken_when = step_taken;
      readiness = readiness_tells;
      step_tells = step_tells;
      step_does = step_does;
      start_when = start_when;
      start_begins = start_begins;
      no_deadlock = no_deadlock;
      step_there = step_there;
      run_stops = run_stops;
      build_lays = build_lays;
      determined = transitions_determined;
      as_written = as_written;
      undo_replays = undo_replays;
      undo_below = undo_below;
      log_written = log_written;
      lights_show = lights_show;
      masks_split = masks_split;
      waiting_lit = waiting_lit;
      in_turn = in_turn;
      lights_fresh = lights_fresh;
    }

pub demand_3 : Demand3 ruled
demand_3 = record { over = demand_2; bounds = passed_over_bound }

-- calls that answer the same are the same calls
same_calls : (bench : Seven) → Equal (λ s. Unit {0}) bench → bench ≡ ruled
same_calls bench e =
    let check = fun_ext e.check in
    let build = fun_ext (λ file. fun_ext (e.build file)) in
    let start = fun_ext (λ list. fun_ext (λ b. fun_ext (λ resets. fun_ext (e.start list b resets)))) in
    let step = fun_ext (λ list. fun_ext (λ s. fun_ext (λ lent. fun_ext (λ p. e.step list s lent p tt)))) in
    let run = fun_ext (λ list. fun_ext (λ s. fun_ext (λ lent. fun_ext (λ picks. fun_ext (λ most. e.run list s lent picks most tt))))) in
    let undo = fun_ext (λ list. fun_ext (λ s. fun_ext (λ lent. e.undo list s lent))) in
    let lights = fun_ext (λ list. fun_ext (λ s. e.lights list s)) in
    λ i. record { check = check i; build = build i; start = start i; step = step i; run = run i; undo = undo i; lights = lights i }

pub carried : Carried
carried bench e = subst (λ (b : Seven). Demands b) (sym (same_calls bench e)) (record { first = demand_1; second = demand_2; third = demand_3 })
