-- The order of the tests, call by call, and what a refusal leaves. Assumes nothing.
use Rattle.std.specs.Prelude.{if◌then◌else◌}
use mathlib.Core.Path.{◌≡◌, refl, sym, ap, ◌∙◌}
use mathlib.Core.Logic.{◌≢◌}
use mathlib.Core.Bool.{Bool, true, false}
use mathlib.Core.List.{List, [], ◌∷◌}
use Prim.Native.Nat.{ℕ, ◌*◌}
use lib.Dec.{eqb, ltb}
use lib.ListN.{length}
use borrow.Author.Tests.{eqb-true, eqb-false, ne_eqb}
use Rattle.rules.specs.Words.{Answer, Test, ◌refuses◌at◌, judge, refusal}
use Rattle.rules.specs.Names.{ROOM}
use Rattle.rules.specs.Check.{check, check_tests}
use Rattle.rules.specs.Build.{list_records, room_tests, build_tests, build}
use Rattle.rules.specs.Start.{start}
use Rattle.rules.specs.Step.{step}
use Rattle.rules.specs.Undo.{undo}
use Rattle.rules.specs.Lights.{lights}
use Rattle.rules.specs.Calls.{ruled}
use Rattle.grammar.proofs.Meant.{check_fault, check_shaped, check_deep}
use Rattle.laws.proofs.Choice.{by_test, if_yes, if_no}
use Rattle.laws.proofs.Judge.{unrefused, judge_silent, judge_then, judge_before}
use Rattle.laws.proofs.Answers.{build_number, start_number, step_number, undo_number, lights_number}
use Rattle.demands.specs.Order.{CheckOrder, CheckShapes, BuildOrder, StartOrder, StepOrder, UndoOrder, LightsOrder, RefusalLeaves}

-- the number of tests made in order, one test at a time
pub judge_number : (b : Bool) (n p : ℕ) (ts : List Test) → (judge ((b refuses n at p) ∷ ts)).number ≡ (if b then n else (judge ts).number)
unfolding judge
judge_number true n p ts = refl
judge_number false n p ts = refl

pub check_order : CheckOrder ruled
unfolding check judge
check_order file = refl

pub check_shapes : CheckShapes ruled
check_shapes file three =
    record { fault = check_fault file three; shaped = check_shaped file three; deep = check_deep file three }

pub start_order : StartOrder ruled
unfolding judge
start_order list b resets lent = start_number list b resets lent ∙ simp judge_number

pub step_order : StepOrder ruled
unfolding judge
step_order list s lent p = step_number list s lent p ∙ simp judge_number

pub undo_order : UndoOrder ruled
unfolding judge
undo_order list s lent = undo_number list s lent ∙ simp judge_number

pub lights_order : LightsOrder ruled
unfolding judge
lights_order list s = lights_number list s ∙ simp judge_number

room_number : (b : Bool) → (judge ((b refuses ROOM at 0) ∷ [])).number ≡ (if b then 6 else 0)
unfolding judge
room_number true = refl
room_number false = refl

-- ROOM has place 0
room_place : (b : Bool) → (judge ((b refuses ROOM at 0) ∷ [])).place ≡ 0
unfolding judge
room_place true = refl
room_place false = refl

module _ (file buffer : List ℕ) where
  -- build's tests where check refuses nothing, and where it refuses
  room_only : refusal (check_tests file) ≡ 0 → judge (build_tests file buffer) ≡ judge (room_tests file buffer)
  room_only none = judge_then (check_tests file) (room_tests file buffer) ((unrefused (check_tests file) refl).0 none)

  check_first : refusal (check_tests file) ≢ 0 → judge (build_tests file buffer) ≡ judge (check_tests file)
  check_first refused = judge_before (check_tests file) (room_tests file buffer) refused

  build_place : (build file buffer).place ≡ (judge (build_tests file buffer)).place
  unfolding build
  build_place =
      by_test (eqb (refusal (build_tests file buffer)) 0)
      (λ e. rw (e, judge_silent (build_tests file buffer) ((unrefused (build_tests file buffer) refl).0 (eqb-true _ 0 e))))
      (λ e. rw e)

pub build_order : BuildOrder ruled
unfolding check
build_order file buffer =
    by_test (eqb (judge (check_tests file)).number 0)
    (λ e.
    let same = room_only file buffer (eqb-true _ 0 e) in (
      build_number file buffer ∙ ap (λ (a : Answer). a.number) same ∙ room_number (ltb (length buffer) (16 * length (list_records file)))
          ∙ sym (if_yes _ _ e),
      build_place file buffer ∙ ap (λ (a : Answer). a.place) same ∙ room_place (ltb (length buffer) (16 * length (list_records file)))
          ∙ sym (ap (λ (a : Answer). a.place) (judge_silent (check_tests file) ((unrefused (check_tests file) refl).0 (eqb-true _ 0 e)))),
    ))
    (λ e.
    let same = check_first file buffer (eqb-false _ 0 e) in (
      build_number file buffer ∙ ap (λ (a : Answer). a.number) same ∙ sym (if_no _ _ e),
      build_place file buffer ∙ ap (λ (a : Answer). a.place) same,
    ))

-- what a refusal leaves
pub refusal_leaves : RefusalLeaves ruled
unfolding build start step undo lights
refusal_leaves =
    record {
      by_build = λ file buffer h. let e = ne_eqb _ 0 (λ z. h (build_number file buffer ∙ z)) in (rw e, rw e);
      by_start = λ list b resets lent h. let e = ne_eqb _ 0 (λ z. h (start_number list b resets lent ∙ z)) in (rw e, rw e);
      by_step = λ list s lent p h. let e = ne_eqb _ 0 (λ z. h (step_number list s lent p ∙ z)) in (rw e, rw e);
      by_undo = λ list s lent h. let e = ne_eqb _ 0 (λ z. h (undo_number list s lent ∙ z)) in rw e;
      by_lights = λ list s h. let e = ne_eqb _ 0 (λ z. h (lights_number list s ∙ z)) in (rw e, rw e, rw e, rw e, rw e);
    }
