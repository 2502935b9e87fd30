-- A reading of a file: an initial part and stations of statements, and the records that they stand for. These are definitions.
use Rattle.std.specs.Prelude.{◌≡◌, Bool, true, false, List, [], ◌∷◌, ◌++◌}
use Rattle.rules.specs.Names.{STATION, SKIP, SET, IF, ELSE, FI, WHILE, OD, AWAIT, END}
use Rattle.rules.specs.Records.{Record}
use Rattle.rules.specs.Trees.{Statements, nothing, skip, assign, branch, loop, await}
use Rattle.rules.specs.Build.{bare}

-- the records of statements, in file order
unfoldable pub flat : Statements → List Record
flat nothing = []
flat (skip rest) = bare SKIP 0 ∷ flat rest
flat (assign r rest) = r ∷ flat rest
flat (branch r x y rest) = r ∷ (flat x ++ (bare ELSE 0 ∷ (flat y ++ (bare FI 0 ∷ flat rest))))
flat (loop r x rest) = r ∷ (flat x ++ (bare OD 0 ∷ flat rest))
flat (await r x rest) = r ∷ (flat x ++ (bare END 0 ∷ flat rest))

-- "A station is STATION and one or more statements"
unfoldable pub flat_stations : List Statements → List Record
flat_stations [] = []
flat_stations (x ∷ stations) = bare STATION 0 ∷ (flat x ++ flat_stations stations)

-- "any number of SET records (the initial part), then stations"
abbrev pub flat_file : List Record → List Statements → List Record
flat_file initial stations = initial ++ flat_stations stations

-- "each list of statements has at least one"
abbrev pub Some : Statements → Type 0
Some nothing = ⊥
Some (skip rest) = Unit {0}
Some (assign r rest) = Unit {0}
Some (branch r x y rest) = Unit {0}
Some (loop r x rest) = Unit {0}
Some (await r x rest) = Unit {0}

-- each statement has a record of its kind, no part is empty, and "A body holds SKIP, SET and IF only, at every depth": true is in a body
pub data Proper : Bool → Statements → Type 0 where
  end : {b : Bool} → Proper b nothing
  skips : {b : Bool} {rest : Statements} → Proper b rest → Proper b (skip rest)
  assigns : {b : Bool} {r : Record} {rest : Statements} → r.kind ≡ SET → Proper b rest → Proper b (assign r rest)
  branches : {b : Bool} {r : Record} {x y rest : Statements} → r.kind ≡ IF → Some x → Proper b x → Some y → Proper b y → Proper b rest
      → Proper b (branch r x y rest)
  loops : {r : Record} {x rest : Statements} → r.kind ≡ WHILE → Some x → Proper false x → Proper false rest
      → Proper false (loop r x rest)
  awaits : {r : Record} {x rest : Statements} → r.kind ≡ AWAIT → Some x → Proper true x → Proper false rest
      → Proper false (await r x rest)

-- each of the stations is one or more statements, outside bodies
pub data Stations : List Statements → Type 0 where
  no_stations : Stations []
  a_station : {x : Statements} {stations : List Statements} → Some x → Proper false x → Stations stations → Stations (x ∷ stations)

-- each record of the initial part is a SET
pub data Sets : List Record → Type 0 where
  no_sets : Sets []
  a_set : {r : Record} {rs : List Record} → r.kind ≡ SET → Sets rs → Sets (r ∷ rs)
