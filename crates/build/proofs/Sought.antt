-- The loops of a whole file are found: its initial part, and its stations. Assumes nothing.
use mathlib.Core.Path.{◌≡◌, refl, ap, ◌∙◌}
use mathlib.Core.List.{List, [], ◌∷◌, ◌++◌}
use Prim.Native.Nat.{ℕ, suc, ◌+◌, ◌-◌, ◌≤◌, ◌<◌}
use native.Mathlib.Omega.{arith}
use lib.ListN.{length, length-append}
use Rattle.rules.specs.Names.{STATION}
use Rattle.rules.specs.Records.{Record}
use Rattle.rules.specs.Trees.{Statements, size}
use Rattle.rules.specs.Build.{bare}
use Rattle.reading.specs.Reading.{flat, flat_stations, flat_file, Stations, a_station, Sets, a_set}
use Rattle.built.proofs.Lengths.{extent}
use Rattle.loops.specs.Loops.{Sought, seek_records, nothing_sought}
use Rattle.build.proofs.Parts.{loops_of}
use Rattle.build.proofs.Forward.{Passed, on, seek_append, seek_station, seek_set, passed_none, passed_one, passed_then, ahead_then, first_chain, none_chain, find_all}
use Rattle.build.proofs.Stations.{station_loops, Shallow}

-- stations, the first of whose STATION records is read where the list is at p
seek_stations : (stations : List Statements) (x : Sought) (p : ℕ) → Stations stations → Shallow stations → x.seeking.place ≡ p → x.seeking.depth ≡ 0
    → p + extent stations < 65535 → x.seeking.found + length (station_loops (suc p) stations) ≤ 512
    → length x.seeking.whiles ≡ 17 → length x.places ≡ 512
    → Passed (extent stations) (station_loops (suc p) stations) x (seek_records (flat_stations stations) x) p
unfolding flat_stations extent station_loops
seek_stations [] x p c f e d small few g h = rw (none_chain x) (passed_none x p e g h)
seek_stations (t ∷ stations) x p (a_station some proper c) f e d small few g h =
    let l : List ℕ = loops_of (suc p) t in
    let k : List ℕ = station_loops (suc (suc p + size t)) stations in
    let n : length (l ++ k) ≡ length l + length k = simp length-append in
    let a0 = passed_one x p e g h in
    let y : Sought = seek_records (flat t) (on x) in
    let a1 : Passed (suc (size t)) l x y p =
    passed_then {n = 1} {q = suc p} {l = []} (omega arith) (omega arith) refl a0
    (find_all proper (on x) (suc p) 0 (ahead_then t x (on x) p (suc p) 1 [] a0 0 (omega arith) (omega (arith, d)) f.0 (omega arith) (omega (arith, n)))) in
    rw (first_chain (bare STATION 0) (flat t ++ flat_stations stations) x, seek_station x (omega (arith, e)), seek_append (flat t) (flat_stations stations) (on x))
    (passed_then {n = suc (size t)} {q = suc p + size t} (omega arith) refl refl a1
    (seek_stations stations y (suc p + size t) c f.1 (a1.place ∙ omega arith) (a1.depth ∙ d) (omega arith) (omega (arith, a1.found, n)) a1.whiles_length a1.places_length))

-- the initial part
seek_initial : (initial : List Record) (x : Sought) (p : ℕ) → Sets initial → x.seeking.place ≡ p → p + length initial < 65535
    → length x.seeking.whiles ≡ 17 → length x.places ≡ 512 → Passed (length initial) [] x (seek_records initial x) p
seek_initial [] x p c e small g h = rw (none_chain x) (passed_none x p e g h)
seek_initial (r ∷ initial) x p (a_set k c) e small g h =
    rw (first_chain r initial x, seek_set x (omega (arith, e)) r k)
    (passed_then {n = 1} {q = suc p} {l = []} {k = []} (omega arith) (omega arith) refl (passed_one x p e g h)
    (seek_initial initial (on x) (suc p) c (ap suc e) (omega arith) g h))

-- the whole file, whose first record is read one place before the stations' number
pub seek_file : (initial : List Record) (stations : List Statements) → Sets initial → Stations stations → Shallow stations → 1 ≤ length stations
    → length stations + length initial + extent stations < 65535 → length (station_loops (length stations + length initial) stations) ≤ 512
    → Passed (length initial + extent stations) (station_loops (length stations + length initial) stations)
    (nothing_sought (length stations - 1)) (seek_records (flat_file initial stations) (nothing_sought (length stations - 1))) (length stations - 1)
seek_file initial stations c d f one small few =
    let p : ℕ = length stations - 1 in
    let x : Sought = nothing_sought p in
    let q : ℕ = p + length initial in
    let e : length stations + length initial ≡ suc q = omega arith in
    let a = seek_initial initial x p c refl (omega arith) refl refl in
    let m : length (station_loops (suc q) stations) ≤ 512 = rw e at few in
    rw (seek_append initial (flat_stations stations) x, e)
    (passed_then {n = length initial} {q = q} {l = []} refl refl refl a
    (seek_stations stations (seek_records initial x) q d f a.place a.depth (omega arith) (omega (arith, a.found)) a.whiles_length a.places_length))
