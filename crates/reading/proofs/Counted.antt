-- A reading has as many stations as its file has STATION records. Assumes nothing.
use mathlib.Core.Path.{◌≡◌, refl, ap, ◌∙◌}
use mathlib.Core.Bool.{Bool}
use mathlib.Core.List.{List, ◌++◌}
use Prim.Native.Nat.{ℕ}
use lib.Dec.{eqb}
use lib.ListN.{length}
use Rattle.rules.specs.Names.{STATION}
use Rattle.rules.specs.Records.{Record}
use Rattle.rules.specs.Trees.{Statements}
use Rattle.laws.specs.Number.{number_of}
use Rattle.reading.specs.Reading.{flat, flat_stations, flat_file, Stations, no_stations, a_station, Sets, no_sets, a_set}
use Rattle.reading.specs.Reading.{Proper, end, skips, assigns, branches, loops, awaits}
use Rattle.reading.proofs.Flat.{flat_branch, flat_loop, flat_await}

-- how many of the records are STATION
abbrev pub stations_in : List Record → ℕ
stations_in = number_of (λ (r : Record). eqb r.kind STATION)

none_in : {b : Bool} {x : Statements} → Proper b x → (rs : List Record) → stations_in (flat x ++ rs) ≡ stations_in rs
unfolding number_of flat
none_in end rs = refl
none_in (skips p) rs = none_in p rs
none_in (assigns e p) rs = rw (e, none_in p)
none_in (branches {r = r} {x = x} {y = y} {rest = rest} e s p t q u) rs =
    ap stations_in (flat_branch r x rest rs y) ∙ rw (none_in p, none_in q, none_in u, e)
none_in (loops {r = r} {x = x} {rest = rest} e s p q) rs = ap stations_in (flat_loop r x rest rs) ∙ rw (none_in p, none_in q, e)
none_in (awaits {r = r} {x = x} {rest = rest} e s p q) rs = ap stations_in (flat_await r x rest rs) ∙ rw (none_in p, none_in q, e)

counted_stations : {xs : List Statements} → Stations xs → stations_in (flat_stations xs) ≡ length xs
unfolding number_of flat_stations
counted_stations no_stations = refl
counted_stations (a_station s p rest) = rw (none_in p, counted_stations rest)

pub counted : {rs : List Record} {xs : List Statements} → Sets rs → Stations xs → stations_in (flat_file rs xs) ≡ length xs
unfolding number_of
counted no_sets s = counted_stations s
counted (a_set e rest) s = rw e (counted rest s)
