-- The records of a reading's stations and of its INITs are right at their places. Assumes nothing.
use mathlib.Core.Path.{◌≡◌}
use mathlib.Core.Bool.{false}
use mathlib.Core.List.{List, ◌∷◌, map}
use Prim.Native.Nat.{ℕ, suc, ◌+◌, ◌≤◌}
use native.Mathlib.Omega.{arith}
use lib.ListN.{length, length-map}
use Rattle.rules.specs.Names.{STOP}
use Rattle.rules.specs.Records.{Record, ListRecord}
use Rattle.rules.specs.Trees.{Statements, size}
use Rattle.rules.specs.Build.{bare, listed, initial_record, inits, bodies, list_of}
use Rattle.reading.specs.Reading.{flat, flat_stations, flat_file, Stations, no_stations, a_station, Sets, no_sets, a_set}
use Rattle.built.specs.Targets.{StandsAt}
use Rattle.built.proofs.Along.{Along, All, all_left, all_right, along_from}
use Rattle.built.proofs.Lengths.{length_inits}
use Rattle.built.proofs.Standing.{apart, together, parts_apart, parts_together, standing}
use Rattle.built.proofs.Right.{Good, Initial, sets, Init, opens, Later, stop_right, Right, as_init, as_initial, as_later}
use Rattle.built.proofs.Steps.{some_start, here, start_leads, right_steps}

-- the stations from j on, the first of them at the place p: their INIT records, their steps and their STOPs
right_stations : (es : List ListRecord) (n m : ℕ) {stations : List Statements} → Stations stations → (j p : ℕ) → j + length stations ≡ n
    → n + m ≤ p → All Good (flat_stations stations) → Along (StandsAt es) p (bodies j p stations)
    → Along (Init es n m) j (inits j p stations) × Along (Later es n m) p (bodies j p stations)
unfolding inits bodies flat_stations
right_stations es n m no_stations j p k l g h = (tt, tt)
right_stations es n m (a_station {x = x} {stations = stations} s c d) j p k l g h =
    let exit : ℕ = p + size x in
    let rest = listed (bare STOP 0) j 0 0 0 ∷ bodies (suc j) (suc exit) stations in
    let hx = apart (StandsAt es) j 0 p exit x rest h in
    let stop = here es n m j false exit (bare STOP 0) 0 0 (omega arith) hx.1.0 in
    let others = right_stations es n m d (suc j) (suc exit) (omega arith) (omega arith) (all_right Good (flat x) _ g.1) hx.1.1 in
    let steps = right_steps es n m j (omega arith) c p exit l (all_left Good (flat x) _ g.1) hx.0 stop in
    let start = rw (some_start x p exit s) at (start_leads es n m j false x p exit l hx.0 stop) in
    ((opens start, others.0), together (Later es n m) j 0 p exit x rest steps (stop_right (omega arith), others.1))

right_initials : {initial : List Record} → Sets initial → (p : ℕ) → All Good initial → Along (λ q. Initial) p (map initial_record initial)
right_initials no_sets p g = tt
right_initials (a_set k c) p g = (sets k g.0, right_initials c (suc p) g.1)

-- the whole list of a reading
pub right_list : (initial : List Record) (stations : List Statements) → Sets initial → Stations stations → All Good (flat_file initial stations)
    → Along (Right (list_of initial stations) (length stations) (length initial)) 0 (list_of initial stations)
right_list initial stations c d g =
    let n : ℕ = length stations in
    let m : ℕ = length initial in
    let es : List ListRecord = list_of initial stations in
    let is = inits 0 (n + m) stations in
    let ms = map initial_record initial in
    let bs = bodies 0 (n + m) stations in
    let count = length_inits 0 (n + m) stations in
    let count_initial : length ms ≡ m = rw length-map in
    let parts = parts_apart (StandsAt es) initial stations (standing es) in
    let all = right_stations es n m d 0 (n + m) (omega arith) (omega arith) (all_right Good initial (flat_stations stations) g) parts.2 in
    let sets = right_initials c n (all_left Good initial (flat_stations stations) g) in
    parts_together (Right es n m) initial stations
    (along_from (Init es n m) (Right es n m) 0 is (λ q e l k h. as_init (omega arith) h) all.0)
    (along_from (λ q. Initial) (Right es n m) n ms (λ q e l k h. as_initial l (omega arith) h) sets)
    (along_from (Later es n m) (Right es n m) (n + m) bs (λ q e l k h. as_later l h) all.1)
