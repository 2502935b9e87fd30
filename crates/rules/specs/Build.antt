-- "The built-in list", and BUILD. These are definitions.
use Rattle.std.specs.Prelude.{ℕ, suc, ◌+◌, ◌*◌, List, [], ◌∷◌, ◌++◌, map, eqb, ltb, length, if◌then◌else◌}
use Rattle.rules.specs.Words.{written, Test, ◌refuses◌at◌, judge}
use Rattle.rules.specs.Names.{SKIP, INIT, STOP, ROOM, no_station}
use Rattle.rules.specs.Records.{Record, ListRecord, list_record_bytes}
use Rattle.rules.specs.Trees.{Statements, nothing, skip, assign, branch, loop, await, stations_of, initial_part, size}
use Rattle.rules.specs.Check.{check_tests}

-- "Unmentioned bytes are 0"
abbrev pub bare : ℕ → ℕ → Record
bare kind a = record { kind = kind; a = a; b = 0; op = 0; k = 0 }

abbrev pub listed : Record → ℕ → ℕ → ℕ → ℕ → ListRecord
listed r station inside t1 t2 = record { own = r; station = station; inside = inside; t1 = t1; t2 = t2; spare = 0 }

-- the first step of statements that start at a place, or what comes after them where they are nothing
abbrev pub start_of : ℕ → ℕ → Statements → ℕ
start_of place after nothing = after
start_of place after (skip rest) = place
start_of place after (assign r rest) = place
start_of place after (branch r x y rest) = place
start_of place after (loop r x rest) = place
start_of place after (await r x rest) = place

-- the records of a station's statements from a place on; `after` comes after the last of them, and `inside` is their byte 9.
-- "SKIP and SET: t1 is the next step. IF and WHILE: t1 when true, t2 when false. After the last step of a loop comes its WHILE …
-- AWAIT: t1 is the following record, t2 the step after END. In a body, target 0 leaves it."
unfoldable pub laid : ℕ → ℕ → ℕ → ℕ → Statements → List ListRecord
laid station inside place after nothing = []
laid station inside place after (skip rest) =
    listed (bare SKIP 0) station inside (start_of (suc place) after rest) 0
    ∷ laid station inside (suc place) after rest
laid station inside place after (assign r rest) =
    listed r station inside (start_of (suc place) after rest) 0
    ∷ laid station inside (suc place) after rest
laid station inside place after (branch r x y rest) =
    let at_y = suc place + size x in
    let at_rest = at_y + size y in
    let next = start_of at_rest after rest in
    listed r station inside (start_of (suc place) next x) (start_of at_y next y)
    ∷ (laid station inside (suc place) next x ++ (laid station inside at_y next y ++ laid station inside at_rest after rest))
laid station inside place after (loop r x rest) =
    let at_rest = suc place + size x in
    let next = start_of at_rest after rest in
    listed r station inside (start_of (suc place) place x) next
    ∷ (laid station inside (suc place) place x ++ laid station inside at_rest after rest)
laid station inside place after (await r x rest) =
    let at_rest = suc place + size x in
    let next = start_of at_rest after rest in
    listed r station inside (suc place) next
    ∷ (laid station 1 (suc place) 0 x ++ laid station inside at_rest after rest)

-- "for each station j, INIT: kind 16, a = j, station j, t1 = its first step": stations from j on, the first of them at a place
unfoldable pub inits : ℕ → ℕ → List Statements → List ListRecord
inits j place [] = []
inits j place (x ∷ stations) = listed (bare INIT j) j 0 place 0 ∷ inits (suc j) (suc (place + size x)) stations

-- "for each station its SKIP, SET, IF, WHILE and AWAIT records in file order, then STOP", which comes after a station's last step
unfoldable pub bodies : ℕ → ℕ → List Statements → List ListRecord
bodies j place [] = []
bodies j place (x ∷ stations) =
    laid j 0 place (place + size x) x
    ++ (listed (bare STOP 0) j 0 0 0 ∷ bodies (suc j) (suc (place + size x)) stations)

-- "the initial part, station 255, targets 0"
abbrev pub initial_record : Record → ListRecord
initial_record r = listed r no_station 0 0 0

unfoldable pub list_of : List Record → List Statements → List ListRecord
list_of initial stations =
    let first_step = length stations + length initial in
    inits 0 first_step stations ++ (map initial_record initial ++ bodies 0 first_step stations)

unfoldable pub bytes_of : List ListRecord → List ℕ
bytes_of [] = []
bytes_of (e ∷ es) = list_record_bytes e ++ bytes_of es

-- the list records of a file
abbrev pub list_records : List ℕ → List ListRecord
list_records file = list_of (initial_part file) (stations_of file)

-- "Build answers the number, the place (ROOM: 0) and the count of list records (refused: 0)", and what the lent buffer then holds
pub record Built : Type 0 where
  pub number : ℕ
  pub place : ℕ
  pub count : ℕ
  pub buffer : List ℕ

-- "ROOM if the lent buffer is shorter"
abbrev pub room_tests : List ℕ → List ℕ → List Test
room_tests file buffer = (ltb (length buffer) (16 * length (list_records file)) refuses ROOM at 0) ∷ []

abbrev pub build_tests : List ℕ → List ℕ → List Test
build_tests file buffer = check_tests file ++ room_tests file buffer

-- "On success bytes past the list stay"
unfoldable pub build : List ℕ → List ℕ → Built
build file buffer =
    let answer = judge (build_tests file buffer) in
    let es = list_records file in
    if eqb answer.number 0
    then record { number = 0; place = 0; count = length es; buffer = written buffer 0 (bytes_of es) }
    else record { number = answer.number; place = answer.place; count = 0; buffer = buffer }
