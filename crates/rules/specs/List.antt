-- "A list is sound when …", clause by clause, of any bytes whatever. These are definitions.
use Rattle.std.specs.Prelude.{ℕ, suc, ◌+◌, ◌-◌, ◌%◌, Bool, ◌&&◌, ◌||◌, not, List, [], ◌∷◌, eqb, leb, ltb, length, if◌then◌else◌}
use Rattle.rules.specs.Words.{among, each, first}
use Rattle.rules.specs.Names.{SKIP, SET, IF, WHILE, AWAIT, INIT, STOP, max_list, max_stations, no_station}
use Rattle.rules.specs.Records.{Record, ListRecord, list_record_at, list_count}
use Rattle.rules.specs.Fields.{fields_right}

-- the list's n: the number of INIT records that it opens with
unfoldable pub stations : List ℕ → ℕ
stations list = first (λ p. not (eqb (list_record_at list p).own.kind INIT)) (list_count list)

-- record p has a station: it is none of the initial part
abbrev pub stationed : List ℕ → ℕ → Bool
stationed list p = not (eqb (list_record_at list p).station no_station)

-- the number of records after the first n that have none: "then come initial SETs"
unfoldable pub initials_after : List ℕ → ℕ → ℕ
initials_after list n = first (λ i. stationed list (n + i)) (list_count list - n)

abbrev pub initials : List ℕ → ℕ
initials list = initials_after list (stations list)

-- the place of the first record after those
abbrev pub later_after : List ℕ → ℕ → ℕ
later_after list n = n + initials_after list n

abbrev pub later : List ℕ → ℕ
later list = later_after list (stations list)

-- "INIT and initial records are neither": record p is a later one, of this station, with this byte 9. Here and below, `from` is the place of
-- the first later record
unfoldable pub is_at : List ℕ → ℕ → ℕ → ℕ → ℕ → Bool
is_at list from inside station p =
    leb from p && ltb p (list_count list)
    && eqb (list_record_at list p).inside inside && eqb (list_record_at list p).station station

-- "outside records of the same station"
abbrev pub outside_from : List ℕ → ℕ → ℕ → ℕ → Bool
outside_from list from = is_at list from 0

abbrev pub inside_from : List ℕ → ℕ → ℕ → ℕ → Bool
inside_from list from = is_at list from 1

abbrev pub outside : List ℕ → ℕ → ℕ → Bool
outside list = outside_from list (later list)

abbrev pub inside : List ℕ → ℕ → ℕ → Bool
inside list = inside_from list (later list)

-- "opens with 1 to 8 INIT records numbered in turn"; "An INIT's t1 … name outside records of the same station"; "as is an INIT's t2"
unfoldable pub init_right : List ℕ → ℕ → ℕ → Bool
init_right list from j =
    let e = list_record_at list j in
    eqb e.own.a j && eqb e.own.b 0 && eqb e.own.op 0 && eqb e.own.k 0
    && eqb e.station j && eqb e.inside 0 && outside_from list from j e.t1 && eqb e.t2 0 && eqb e.spare 0

-- "then come initial SETs"
unfoldable pub initial_right : List ℕ → ℕ → Bool
initial_right list p =
    let e = list_record_at list p in
    eqb e.own.kind SET && fields_right e.own
    && eqb e.inside 0 && eqb e.t1 0 && eqb e.t2 0 && eqb e.spare 0

-- "all targets of outside records name outside records of the same station, but AWAIT's t1 is its own place plus one, inside and of its
-- station, and STOP's are 0"; "SKIP's and SET's t2 is 0"
unfoldable pub outside_targets : List ℕ → ℕ → ℕ → ListRecord → Bool
outside_targets list from p e =
    if eqb e.own.kind STOP then eqb e.t1 0 && eqb e.t2 0
    else if eqb e.own.kind AWAIT
    then eqb e.t1 (suc p) && inside_from list from e.station e.t1 && outside_from list from e.station e.t2
    else if among e.own.kind (SKIP ∷ SET ∷ []) then outside_from list from e.station e.t1 && eqb e.t2 0
    else outside_from list from e.station e.t1 && outside_from list from e.station e.t2

-- "0 or a higher inside record of the same station"
unfoldable pub inside_target : List ℕ → ℕ → ℕ → ℕ → ℕ → Bool
inside_target list from station p t = eqb t 0 || ltb p t && inside_from list from station t

unfoldable pub inside_targets : List ℕ → ℕ → ℕ → ListRecord → Bool
inside_targets list from p e =
    inside_target list from e.station p e.t1
    && (if eqb e.own.kind IF then inside_target list from e.station p e.t2 else eqb e.t2 0)

-- "fields obey the tables and unmentioned bytes are 0": a STOP's are all unmentioned
abbrev pub own_right : Record → Bool
own_right r =
    if eqb r.kind STOP then eqb r.a 0 && eqb r.b 0 && eqb r.op 0 && eqb r.k 0
    else fields_right r

-- "every later record has a station below n and byte 9 either 0 (outside) or 1 (inside)"; "outside records have only kinds 2, 3, 4, 7, 9,
-- 17, inside ones only 2, 3, 4"
unfoldable pub later_right : List ℕ → ℕ → ℕ → ℕ → Bool
later_right list n from p =
    let e = list_record_at list p in
    ltb e.station n && own_right e.own && eqb e.spare 0
    && (if eqb e.inside 0
    then among e.own.kind (SKIP ∷ SET ∷ IF ∷ WHILE ∷ AWAIT ∷ STOP ∷ []) && outside_targets list from p e
    else eqb e.inside 1 && among e.own.kind (SKIP ∷ SET ∷ IF ∷ []) && inside_targets list from p e)

unfoldable pub sound_list : List ℕ → Bool
sound_list list =
    let n = stations list in
    let from = later list in
    eqb (length list % 16) 0 && leb (list_count list) max_list
    && leb 1 n && leb n max_stations
    && each (init_right list from) n
    && each (λ i. initial_right list (n + i)) (initials list)
    && each (λ i. later_right list n from (from + i)) (list_count list - from)
