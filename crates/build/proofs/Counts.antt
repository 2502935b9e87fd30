-- The number of records that the code counts is the list's, and a file has at most half as many loops as records. Assumes nothing.
use mathlib.Core.Path.{◌≡◌, ap}
use mathlib.Core.List.{List, [], ◌∷◌}
use Prim.Native.Nat.{ℕ, suc, ◌+◌, ◌*◌, ◌≤◌, zero-le}
use native.Mathlib.Omega.{arith}
use lib.ListN.{length, length-append}
use Rattle.rules.specs.Records.{Record, record_at, record_count, records}
use Rattle.rules.specs.Trees.{Statements, nothing, skip, assign, branch, loop, await, size}
use Rattle.rules.specs.Build.{list_of}
use Rattle.reading.specs.Reading.{flat, flat_stations, flat_file, Stations, Sets}
use Rattle.built.proofs.Lengths.{steps_in, tally_steps, steps_file, length_list}
use Rattle.laying.specs.Laid.{step_count}
use Rattle.build.proofs.Parts.{loops_of}
use Rattle.build.proofs.Stations.{station_loops}

-- in terms of what code counts
pub counted : (file : List ℕ) (initial : List Record) (stations : List Statements) → Sets initial → Stations stations
    → flat_file initial stations ≡ records file → length (list_of initial stations) ≡ 2 * length stations + step_count file
unfolding step_count
counted file initial stations s c e =
    let h = steps_file s c in
    let k = tally_steps (record_at file) (record_count file) in
    let l = ap steps_in e in
    let m = length_list initial stations in
    omega arith

-- each loop has two records of its own
loops_within : (p : ℕ) (t : Statements) → 2 * length (loops_of p t) ≤ length (flat t)
unfolding loops_of flat
loops_within p nothing = zero-le
loops_within p (skip rest) = let h = loops_within (suc p) rest in omega arith
loops_within p (assign r rest) = let h = loops_within (suc p) rest in omega arith
loops_within p (branch r x y rest) =
    let h = loops_within (suc p) x in
    let i = loops_within (suc p + size x) y in
    let j = loops_within (suc p + size x + size y) rest in
    simp length-append (omega arith)
loops_within p (loop r x rest) =
    let h = loops_within (suc p) x in
    let j = loops_within (suc p + size x) rest in
    simp length-append (omega arith)
loops_within p (await r x rest) =
    let h = loops_within (suc p) x in
    let j = loops_within (suc p + size x) rest in
    simp length-append (omega arith)

pub station_loops_within : (p : ℕ) (stations : List Statements) → 2 * length (station_loops p stations) ≤ length (flat_stations stations)
unfolding station_loops flat_stations
station_loops_within p [] = zero-le
station_loops_within p (x ∷ stations) =
    let h = loops_within p x in
    let i = station_loops_within (suc (p + size x)) stations in
    simp length-append (omega arith)
