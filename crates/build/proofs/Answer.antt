-- What the rules' build answers: check's refusal, ROOM, or the list. Assumes nothing.
use Rattle.std.specs.Prelude.{Err}
use mathlib.Core.Path.{◌≡◌, refl, sym, ap, ◌∙◌}
use mathlib.Core.List.{List, []}
use Prim.Native.Nat.{ℕ, ◌+◌, ◌*◌, ◌≤◌, ◌<◌}
use native.Mathlib.Omega.{arith}
use lib.Dec.{ltb}
use lib.ListN.{length}
use borrow.Author.Tests.{ne_eqb, lt-ltb, le-ltb}
use Rattle.rules.specs.Words.{written, Answer, judge}
use Rattle.rules.specs.Names.{ROOM, max_stations, max_list}
use Rattle.rules.specs.Check.{check, check_tests, station_count}
use Rattle.rules.specs.Trees.{initial_part, stations_of}
use Rattle.rules.specs.Build.{list_records, bytes_of, room_tests, build_tests, build}
use Rattle.laws.proofs.Judge.{judge_yes, judge_no, judge_then, judge_before, unrefused}
use Rattle.reading.specs.Accepted.{Accepted}
use Rattle.reading.proofs.Passed.{accepted_is}
use Rattle.reading.proofs.One.{reading_is, stations_counted}
use Rattle.built.proofs.Whole.{built_most}
use Rattle.record.specs.Refusals.{number_of}
use Rattle.record.specs.declared.refusal.Refusal.{Refusal}
use Rattle.record.specs.declared.refusal.Refusal.TheVariants as refusals
use Rattle.sequence.specs.declared.Fault.{Fault}
use Rattle.sequence.specs.Answer.{answer, as_fault}
use Rattle.laying.specs.Laid.{step_count}
use Rattle.build.specs.View.{told_built}
use Rattle.build.proofs.Counts.{counted}

-- a refusal's number is not 0
numbered : (refusal : Refusal) → number_of refusal ≡ 0 → ⊥
numbered refusals.Length e = absurd (omega arith)
numbered refusals.Field e = absurd (omega arith)
numbered refusals.Count e = absurd (omega arith)
numbered refusals.Shape e = absurd (omega arith)
numbered refusals.Depth e = absurd (omega arith)
numbered refusals.Room e = absurd (omega arith)
numbered refusals.List e = absurd (omega arith)
numbered refusals.State e = absurd (omega arith)
numbered refusals.Full e = absurd (omega arith)
numbered refusals.Component e = absurd (omega arith)
numbered refusals.NotReady e = absurd (omega arith)
numbered refusals.Turn e = absurd (omega arith)
numbered refusals.Reset e = absurd (omega arith)
numbered refusals.Empty e = absurd (omega arith)
numbered refusals.Log e = absurd (omega arith)
numbered refusals.Ended e = absurd (omega arith)

module _ (file : List ℕ) where
  -- where check refuses nothing, the file is accepted
  pub accepted_as : answer 0 0 ≡ check file → Accepted file
  accepted_as e = (accepted_is file).0 (ap (λ (a : Answer). a.number) (sym e))

  -- and what check refuses is build's refusal
  pub build_refused : (fault : Fault) (buffer : List ℕ) → as_fault fault ≡ check file → told_built (Err fault) buffer ≡ build file buffer
  unfolding build check
  build_refused fault buffer e =
      let n = ap (λ (a : Answer). a.number) e in
      let p = ap (λ (a : Answer). a.place) e in
      let h : (check file).number ≡ 0 → ⊥ = λ z. numbered fault.refusal (n ∙ z) in
      rw (n, p, judge_before (check_tests file) (room_tests file buffer) h, ne_eqb (judge (check_tests file)).number 0 h)

  module _ (e : Accepted file) where
    judged : (buffer : List ℕ) → judge (build_tests file buffer) ≡ judge (room_tests file buffer)
    unfolding check
    judged buffer =
        judge_then (check_tests file) (room_tests file buffer)
        ((unrefused (check_tests file) refl).0 ((accepted_is file).1 e))

    pub build_short : (buffer : List ℕ) → length buffer < 16 * length (list_records file)
        → build file buffer ≡ record { number = ROOM; place = 0; count = 0; buffer = buffer }
    unfolding build
    build_short buffer h = rw (judged buffer, judge_yes (ltb (length buffer) (16 * length (list_records file))) ROOM 0 [] (lt-ltb _ _ h))

    pub build_done : (buffer : List ℕ) → 16 * length (list_records file) ≤ length buffer
        → build file buffer ≡ record { number = 0; place = 0; count = length (list_records file); buffer = written buffer 0 (bytes_of (list_records file)) }
    unfolding build judge
    build_done buffer h = rw (judged buffer, judge_no (ltb (length buffer) (16 * length (list_records file))) ROOM 0 [] (le-ltb _ _ h))

    -- what the code counts
    pub total_is : 2 * station_count file + step_count file ≡ length (list_records file)
    total_is =
        let r = reading_is file e in
        let c = counted file (initial_part file) (stations_of file) r.sets r.stations r.same in
        omega (arith, stations_counted file e)

  -- and what the code counts of it is small
  pub counted_few : answer 0 0 ≡ check file → step_count file + 2 * station_count file ≤ max_list
  counted_few e = let a = accepted_as e in omega (arith, total_is a, built_most file a)

  pub stations_few : answer 0 0 ≡ check file → station_count file ≤ max_stations
  stations_few e = let a = accepted_as e in omega (arith, stations_counted file a, (reading_is file a).eight_at_most)
