-- "Bench cases": P1 to P12 as one table under a single claim, which the checker computes from the rules. A row is an input and what comes
-- out of it. Those under a P say what document 01 says, as document 02 amends it; the bytes of the two lists, and the rows marked as ours,
-- follow from the rules.
-- Assumes nothing.
use Rattle.std.specs.Prelude.{ℕ, ◌+◌, ◌-◌, ◌*◌, ◌≡◌, refl, Bool, true, false, List, [], ◌∷◌, ◌++◌, length, take, replicate, ℤ, pos, negsuc}
use Rattle.std.proofs.Math.Option.{Option, none, some}
use Rattle.rules.specs.Words.{Answer, answer, each, first, tally, mask, values, changed, joined, written, judge}
use Rattle.rules.specs.Names.{LENGTH, FIELD, SHAPE, COMPONENT, NOT_READY, TURN, RESET, ENDED, STATION, SKIP, SET, IF, ELSE, FI, WHILE, OD, AWAIT, END, variables, max_stations, max_kept, kept_length}
use Rattle.rules.specs.Records.{record_from, record_at, record_count, word_bytes, list_record_at}
use Rattle.rules.specs.Fields.{rules_of, fields_right}
use Rattle.rules.specs.Shape.{stride, wrong_at, walked, well_shaped, too_deep_at}
use Rattle.rules.specs.Check.{check, wrong_length, field_place, station_count, depth_place}
use Rattle.rules.specs.Trees.{parts_of, stations_of, leading_sets, initial_part, size}
use Rattle.rules.specs.Build.{laid, inits, bodies, list_of, bytes_of, build}
use Rattle.rules.specs.List.{stations, initials_after, is_at, init_right, initial_right, outside_targets, inside_target, inside_targets, later_right, sound_list}
use Rattle.rules.specs.State.{State, count, zeros, few_low, empty_at, sound_state}
use Rattle.rules.specs.Values.{set_value, holds}
use Rattle.rules.specs.Start.{initial_run, started, start_records, start}
use Rattle.rules.specs.Ready.{readiness_at, readiness, ended, waiting, ready, lowest}
use Rattle.rules.specs.Move.{body_run, step_vars, step_position}
use Rattle.rules.specs.Step.{charge, counts_after, stepped, picked, step}
use Rattle.rules.specs.Kept.{encoded, kept_state, kept_zeros, kept_right, keep}
use Rattle.rules.specs.Run.{steps_from, run}
use Rattle.rules.specs.Undo.{replay, starts_right, restarted, replayed_near, undo}
use Rattle.rules.specs.Asked.{asked}
use Rattle.rules.specs.Lights.{reads, writes, led_to, body, some_of, touches, lights}
use Rattle.rules.specs.Why.{Why, bare, waits_for, first_in_turn, reason, why}
use Rattle.rules.specs.Trace.{decimal_digits, entries_text, line, end_line, taken_pick, picks_text, run_text, start_text, trace}
use Rattle.rules.specs.Calls.{ruled}
use Rattle.rules.specs.History.{Call, START, STEP, RUN, UNDO, Steps, height, Now, stepped_on, single_steps, called, calls_from, answered}
use Rattle.rules.specs.Passed.{passed_over, since_pick}

infixr 5 ◌and◌
-- the eight bytes of a record
abbrev eight : ℕ → ℕ → ℕ → ℕ → ℕ → List ℕ
eight kind a b op k = (kind ∷ a ∷ b ∷ op ∷ []) ++ word_bytes k

-- a record with nothing but its kind
abbrev plain : ℕ → List ℕ
plain kind = eight kind 0 0 0 0

-- a built list of these records, written into a buffer with room for as many as the file has and one more for each station
abbrev list_made : List ℕ → List ℕ
list_made file = let built = build file (replicate (16 * (record_count file + max_stations)) 0) in take (16 * built.count) built.buffer

-- a log with room for ten steps, and one for seventy, whose bytes are none that a call writes; so too the kept states, and a caller with no state
-- yet
abbrev junk : List ℕ
junk = replicate 24 7

abbrev fresh : Now
fresh = record { state = zeros; lent = record { log = junk; kept = replicate (kept_length * max_kept) 7 }; standing = none }

abbrev fresh_long : Now
fresh_long = record { state = zeros; lent = record { log = replicate 142 7; kept = fresh.lent.kept }; standing = none }

-- what a call answers: its number, and the last state answered after it
record Answered : Type 0 where
  number : ℕ
  state : State

answers : List ℕ → Now → List Call → List Answered
answers list now [] = []
answers list now (c ∷ cs) =
    let after = called ruled list now c in
    record { number = answered ruled list now c; state = after.state } ∷ answers list after cs

-- how many steps stand, and how often station j was passed over in all of them
abbrev height_of : Option Steps → ℕ
height_of none = 0
height_of (some steps) = height steps

abbrev passed_in : List ℕ → ℕ → Option Steps → ℕ
passed_in list j none = 0
passed_in list j (some steps) = passed_over list j steps (height steps)

-- and since its last pick
abbrev passed_since : List ℕ → ℕ → Option Steps → ℕ
passed_since list j none = 0
passed_since list j (some steps) = passed_over list j steps (since_pick j steps)

abbrev pick : ℕ → ℕ → Call
pick station reset = STEP (record { station = station; reset = reset })

-- a state of two stations or one, the zeros left out
abbrev stands : List ℕ → List ℕ → List ℤ → List ℕ → ℕ → ℕ → State
stands vars positions priorities counts b m =
    record {
      vars = vars ++ replicate (variables - length vars) 0;
      positions = positions ++ replicate (max_stations - length positions) 0;
      priorities = priorities ++ replicate (max_stations - length priorities) (pos 0);
      counts = counts ++ replicate (max_stations - length counts) 0;
      n = length positions;
      b = b;
      m = m;
    }

-- a row of masks, the zeros left out
abbrev row_of_32 : List ℕ → List ℕ
row_of_32 masks = masks ++ replicate (variables - length masks) 0

-- what `why` answers of a station that waits, and of one that is behind
abbrev waits : ℕ → ℕ → List ℕ → List ℕ → Why
waits place count variables values =
    record { number = NOT_READY; ahead = 0; place = place; count = count; variables = variables; values = values }

abbrev stands_behind : ℕ → Why
stands_behind i = record { number = TURN; ahead = i; place = 0; count = 0; variables = 0 ∷ 0 ∷ []; values = 0 ∷ 0 ∷ [] }

abbrev goes : State → Answered
goes s = record { number = 0; state = s }

abbrev refused : ℕ → State → Answered
refused number s = record { number = number; state = s }

-- a row of the table: what goes in, and what comes out
data Row : Type 0 where
  -- a file; the number and place that check answers
  checks : List ℕ → ℕ → ℕ → Row
  -- eight bytes; whether the record is right
  right : List ℕ → Bool → Row
  -- a file, the number of records of its list, and their bytes
  lists : List ℕ → ℕ → List ℕ → Row
  -- a file, and calls on its list; what each of them answers
  plays : List ℕ → List Call → List Answered → Row
  -- the same with a long log
  plays_long : List ℕ → List Call → List Answered → Row
  -- a file, and calls on its list with a long log; the bytes of the first kept place afterwards, and the one behind it
  keeps : List ℕ → List Call → List ℕ → Row
  -- a file, and calls on its list; how many steps stand after them
  leaves : List ℕ → List Call → ℕ → Row
  -- a file, calls on its list, and a station; how often it was ready and passed over in the steps that stand after them
  passes : List ℕ → List Call → ℕ → ℕ → Row
  -- a file, and calls on its list; each station's count in the last state answered, which is how often it was passed over since its last pick
  counts_passed : List ℕ → List Call → List ℕ → Row
  -- a file, and a state; whether it is sound against the file's list
  sound : List ℕ → State → Bool → Row
  -- a file, a start's B and resets, calls after it, and a station; that this was B+n-1 times
  passes_most : List ℕ → ℕ → List ℕ → List Call → ℕ → Row
  -- a file, and calls on its list; what the readiness of each station, and of one more, tells in the last state answered
  tells : List ℕ → List Call → List Answer → Row
  -- a file, and calls on its list; why each station, and one more, was not picked in the last state answered
  reasons : List ℕ → List Call → List Why → Row
  -- a file, and calls on its list; the read masks and the write masks in the last state answered, the zeros after them left out
  lights_up : List ℕ → List Call → List ℕ → List ℕ → Row
  -- the three files of the trace program; what it prints
  prints : List ℕ → List ℕ → List ℕ → List ℕ → Row

abbrev Holds : Row → Type 0
Holds (checks file number place) = check file ≡ answer number place
Holds (right bytes answer) = fields_right (record_at bytes 0) ≡ answer
Holds (lists file count bytes) =
    build file (replicate (16 * count) 7 ++ junk) ≡ record { number = 0; place = 0; count = count; buffer = bytes ++ junk }
Holds (plays file cs rows) = answers (list_made file) fresh cs ≡ rows
Holds (plays_long file cs rows) = answers (list_made file) fresh_long cs ≡ rows
Holds (keeps file cs bytes) = take (kept_length + 1) (calls_from ruled (list_made file) fresh_long cs).lent.kept ≡ bytes
Holds (leaves file cs count) = height_of (calls_from ruled (list_made file) fresh cs).standing ≡ count
Holds (passes file cs j times) = passed_in (list_made file) j (calls_from ruled (list_made file) fresh cs).standing ≡ times
Holds (counts_passed file cs times) =
    let now = calls_from ruled (list_made file) fresh cs in
    (values (count now.state) now.state.n ∷ values (λ j. passed_since (list_made file) j now.standing) now.state.n ∷ [])
    ≡ times ∷ times ∷ []
Holds (sound file s answer) = sound_state (list_made file) s ≡ answer
Holds (passes_most file b resets cs j) =
    passed_in (list_made file) j (calls_from ruled (list_made file) fresh (START b resets ∷ cs)).standing ≡ b + stations (list_made file) - 1
Holds (tells file cs told) =
    let s = (calls_from ruled (list_made file) fresh cs).state in
    values (asked (list_made file) s) (s.n + 1) ≡ told
Holds (reasons file cs given) =
    let s = (calls_from ruled (list_made file) fresh cs).state in
    values (why (list_made file) s) (s.n + 1) ≡ given
Holds (lights_up file cs read write) =
    let lit = lights (list_made file) (calls_from ruled (list_made file) fresh cs).state in
    ((lit.number ∷ []) ∷ lit.rows) ≡ (0 ∷ []) ∷ row_of_32 read ∷ row_of_32 write ∷ []
Holds (prints program starts picks text) = trace program starts picks ≡ text

-- each row of a table holds
data Every : List Row → Type 0 where
  done : Every []
  ◌and◌ : {row : Row} {rows : List Row} → Holds row → Every rows → Every (row ∷ rows)

-- P10: "two stations, each WHILE v0 = v0 around SKIP"
abbrev pair : List ℕ
pair =
    plain STATION ++ eight WHILE 0 0 4 0 ++ plain SKIP ++ plain OD
    ++ plain STATION ++ eight WHILE 0 0 4 0 ++ plain SKIP ++ plain OD

-- P11: "STATION; SET v0 := 1; STATION; AWAIT v0 = 1; SET v0 := v0+1; END"
abbrev dryer : List ℕ
dryer =
    plain STATION ++ eight SET 0 0 0 1
    ++ plain STATION ++ eight AWAIT 0 0 0 1 ++ eight SET 0 0 2 1 ++ plain END

-- ours: STATION; SET v0 := 1; STATION; AWAIT v0 differs from v1; SET v2 := v3; END
abbrev feeder : List ℕ
feeder =
    plain STATION ++ eight SET 0 0 0 1
    ++ plain STATION ++ eight AWAIT 0 0 5 1 ++ eight SET 2 3 1 0 ++ plain END

-- ours: SET v1 := 7; SET v2 := 9; STATION; AWAIT v2 equals v1; SKIP; END; STATION; SET v2 := 7; STATION; SKIP; STATION; SKIP
abbrev quartet : List ℕ
quartet =
    eight SET 1 0 0 7 ++ eight SET 2 0 0 9
    ++ plain STATION ++ eight AWAIT 0 2 4 1 ++ plain SKIP ++ plain END
    ++ plain STATION ++ eight SET 2 0 0 7 ++ plain STATION ++ plain SKIP ++ plain STATION ++ plain SKIP

-- ours: STATION; WHILE v0 = v0; SET v0 := v0+1; OD
abbrev counter : List ℕ
counter = plain STATION ++ eight WHILE 0 0 4 0 ++ eight SET 0 0 2 1 ++ plain OD

-- its states at the WHILE, and at the SET: what v0 has come to, the priority and the steps
abbrev at_while : ℕ → ℕ → ℕ → State
at_while v priority m = stands (v ∷ []) (1 ∷ []) (pos priority ∷ []) [] 1 m

abbrev at_set : ℕ → ℕ → ℕ → State
at_set v priority m = stands (v ∷ []) (2 ∷ []) (pos priority ∷ []) [] 1 m

-- Dryer's states with no step, one step and two
abbrev dryer_0 : State
dryer_0 = stands (0 ∷ []) (2 ∷ 4 ∷ []) (pos 0 ∷ pos 0 ∷ []) [] 0 0

abbrev dryer_1 : State
dryer_1 = stands (1 ∷ []) (3 ∷ 4 ∷ []) (pos 0 ∷ pos 0 ∷ []) [] 0 1

abbrev dryer_2 : State
dryer_2 = stands (2 ∷ []) (3 ∷ 6 ∷ []) (pos 0 ∷ pos 0 ∷ []) [] 0 2

-- the pair's states along P10's picks
abbrev pair_0 : State
pair_0 = stands [] (2 ∷ 5 ∷ []) (pos 0 ∷ pos 1 ∷ []) [] 1 0

abbrev pair_1 : State
pair_1 = stands [] (3 ∷ 5 ∷ []) (pos 0 ∷ pos 0 ∷ []) (0 ∷ 1 ∷ []) 1 1

abbrev pair_2 : State
pair_2 = stands [] (2 ∷ 5 ∷ []) (pos 0 ∷ negsuc 0 ∷ []) (0 ∷ 2 ∷ []) 1 2

abbrev pair_3 : State
pair_3 = stands [] (2 ∷ 6 ∷ []) (negsuc 0 ∷ pos 1 ∷ []) (1 ∷ 0 ∷ []) 1 3

-- P10's state after two picks, with other counts
abbrev pair_counting : List ℕ → State
pair_counting counts = stands [] (2 ∷ 5 ∷ []) (pos 0 ∷ negsuc 0 ∷ []) counts 1 2

-- ours: STATION; SET v0 := 1; SKIP; SET v0 := 0; SKIP; STATION; AWAIT v0 = 0; SKIP; END. Station 1 is ready, then it waits, and then it is
-- ready again
abbrev flicker : List ℕ
flicker =
    plain STATION ++ eight SET 0 0 0 1 ++ plain SKIP ++ eight SET 0 0 0 0 ++ plain SKIP
    ++ plain STATION ++ eight AWAIT 0 0 0 0 ++ plain SKIP ++ plain END

-- its states before station 1 is picked: v0, station 0's position, station 1's priority and count, and the steps
abbrev flicker_at : ℕ → ℕ → ℕ → ℕ → ℕ → State
flicker_at v position priority count m = stands (v ∷ []) (position ∷ 7 ∷ []) (pos 0 ∷ pos priority ∷ []) (0 ∷ count ∷ []) 3 m

abbrev table : List Row
table =
    -- P1 no bytes: LENGTH
    checks [] LENGTH 0
    -- P2 STATION, SKIP: accepted, list of 3 records
    ∷ checks (plain STATION ++ plain SKIP) 0 0
    ∷ lists (plain STATION ++ plain SKIP) 3
    ((16 ∷ 0 ∷ 0 ∷ 0 ∷ 0 ∷ 0 ∷ 0 ∷ 0 ∷ 0 ∷ 0 ∷ 1 ∷ 0 ∷ 0 ∷ 0 ∷ 0 ∷ 0 ∷ [])
    ++ (2 ∷ 0 ∷ 0 ∷ 0 ∷ 0 ∷ 0 ∷ 0 ∷ 0 ∷ 0 ∷ 0 ∷ 2 ∷ 0 ∷ 0 ∷ 0 ∷ 0 ∷ 0 ∷ [])
    ++ (17 ∷ 0 ∷ 0 ∷ 0 ∷ 0 ∷ 0 ∷ 0 ∷ 0 ∷ 0 ∷ 0 ∷ 0 ∷ 0 ∷ 0 ∷ 0 ∷ 0 ∷ 0 ∷ []))
    -- P3 STATION: SHAPE at 1
    ∷ checks (plain STATION) SHAPE 1
    -- P4 SKIP, STATION, SKIP: SHAPE at 0
    ∷ checks (plain SKIP ++ plain STATION ++ plain SKIP) SHAPE 0
    -- P5 STATION, IF, SKIP, FI: SHAPE at 3
    ∷ checks (plain STATION ++ plain IF ++ plain SKIP ++ plain FI) SHAPE 3
    -- P6 STATION, AWAIT, WHILE: SHAPE at 2
    ∷ checks (plain STATION ++ plain AWAIT ++ plain WHILE) SHAPE 2
    -- P7 SET op 0 with b = 1: FIELD
    ∷ checks (eight SET 0 1 0 0) FIELD 0
    -- P8 SET op 4, k = 32: FIELD; with k = 31 the record is right
    ∷ checks (eight SET 0 0 4 32) FIELD 0
    ∷ right (eight SET 0 0 4 31) true
    -- P9 zero minus 1 is 4,294,967,295
    ∷ plays (plain STATION ++ eight SET 0 0 3 1) (START 0 (0 ∷ []) ∷ pick 0 0 ∷ [])
    (goes (stands (0 ∷ []) (1 ∷ []) (pos 0 ∷ []) [] 0 0) ∷ goes (stands (4294967295 ∷ []) (2 ∷ []) (pos 0 ∷ []) [] 0 1) ∷ [])
    -- P10 … Picks (0,0), (0,0) give priorities 0 and -1; picking 0 is then TURN; pick (1,1) gives -1 and 1
    ∷ plays pair (START 1 (0 ∷ 1 ∷ []) ∷ pick 0 0 ∷ pick 0 0 ∷ pick 0 0 ∷ pick 1 1 ∷ [])
    (goes pair_0 ∷ goes pair_1 ∷ goes pair_2 ∷ refused TURN pair_2 ∷ goes pair_3 ∷ [])
    -- Station 1 was passed over twice, which is B+n-1
    ∷ passes pair (START 1 (0 ∷ 1 ∷ []) ∷ pick 0 0 ∷ pick 0 0 ∷ pick 0 0 ∷ pick 1 1 ∷ []) 1 2
    ∷ passes_most pair 1 (0 ∷ 1 ∷ []) (pick 0 0 ∷ pick 0 0 ∷ pick 0 0 ∷ pick 1 1 ∷ []) 1
    -- ours: which its count says before its pick
    ∷ counts_passed pair (START 1 (0 ∷ 1 ∷ []) ∷ pick 0 0 ∷ pick 0 0 ∷ []) (0 ∷ 2 ∷ [])
    -- ours: and after it: then it is station 0 that was passed over, once
    ∷ counts_passed pair (START 1 (0 ∷ 1 ∷ []) ∷ pick 0 0 ∷ pick 0 0 ∷ pick 1 1 ∷ []) (1 ∷ 0 ∷ [])
    -- ours: priority plus count is B before it; at B+1 it is not sound, nor with a count past its stations
    ∷ sound pair (pair_counting (0 ∷ 2 ∷ [])) true
    ∷ sound pair (pair_counting (1 ∷ 2 ∷ [])) true
    ∷ sound pair (pair_counting (0 ∷ 3 ∷ [])) false
    ∷ sound pair (pair_counting (2 ∷ 2 ∷ [])) false
    ∷ sound pair (pair_counting (0 ∷ 2 ∷ 1 ∷ [])) false
    -- ours: and back, each undo gives back the whole state before the step
    ∷ plays pair (START 1 (0 ∷ 1 ∷ []) ∷ pick 0 0 ∷ pick 0 0 ∷ pick 1 1 ∷ UNDO ∷ UNDO ∷ UNDO ∷ [])
    (goes pair_0 ∷ goes pair_1 ∷ goes pair_2 ∷ goes pair_3 ∷ goes pair_2 ∷ goes pair_1 ∷ goes pair_0 ∷ [])
    -- ours: a loop that ends a branch. STATION; IF; WHILE; SKIP; OD; ELSE; SKIP; FI: the loop's SKIP leads to its WHILE, and that past the FI
    ∷ lists (plain STATION ++ plain IF ++ plain WHILE ++ plain SKIP ++ plain OD ++ plain ELSE ++ plain SKIP ++ plain FI) 6
    ((16 ∷ 0 ∷ 0 ∷ 0 ∷ 0 ∷ 0 ∷ 0 ∷ 0 ∷ 0 ∷ 0 ∷ 1 ∷ 0 ∷ 0 ∷ 0 ∷ 0 ∷ 0 ∷ [])
    ++ (4 ∷ 0 ∷ 0 ∷ 0 ∷ 0 ∷ 0 ∷ 0 ∷ 0 ∷ 0 ∷ 0 ∷ 2 ∷ 0 ∷ 4 ∷ 0 ∷ 0 ∷ 0 ∷ [])
    ++ (7 ∷ 0 ∷ 0 ∷ 0 ∷ 0 ∷ 0 ∷ 0 ∷ 0 ∷ 0 ∷ 0 ∷ 3 ∷ 0 ∷ 5 ∷ 0 ∷ 0 ∷ 0 ∷ [])
    ++ (2 ∷ 0 ∷ 0 ∷ 0 ∷ 0 ∷ 0 ∷ 0 ∷ 0 ∷ 0 ∷ 0 ∷ 2 ∷ 0 ∷ 0 ∷ 0 ∷ 0 ∷ 0 ∷ [])
    ++ (2 ∷ 0 ∷ 0 ∷ 0 ∷ 0 ∷ 0 ∷ 0 ∷ 0 ∷ 0 ∷ 0 ∷ 5 ∷ 0 ∷ 0 ∷ 0 ∷ 0 ∷ 0 ∷ [])
    ++ (17 ∷ 0 ∷ 0 ∷ 0 ∷ 0 ∷ 0 ∷ 0 ∷ 0 ∷ 0 ∷ 0 ∷ 0 ∷ 0 ∷ 0 ∷ 0 ∷ 0 ∷ 0 ∷ []))
    -- P11 "Dryer" … List: 7 records
    ∷ lists dryer 7
    ((16 ∷ 0 ∷ 0 ∷ 0 ∷ 0 ∷ 0 ∷ 0 ∷ 0 ∷ 0 ∷ 0 ∷ 2 ∷ 0 ∷ 0 ∷ 0 ∷ 0 ∷ 0 ∷ [])
    ++ (16 ∷ 1 ∷ 0 ∷ 0 ∷ 0 ∷ 0 ∷ 0 ∷ 0 ∷ 1 ∷ 0 ∷ 4 ∷ 0 ∷ 0 ∷ 0 ∷ 0 ∷ 0 ∷ [])
    ++ (3 ∷ 0 ∷ 0 ∷ 0 ∷ 1 ∷ 0 ∷ 0 ∷ 0 ∷ 0 ∷ 0 ∷ 3 ∷ 0 ∷ 0 ∷ 0 ∷ 0 ∷ 0 ∷ [])
    ++ (17 ∷ 0 ∷ 0 ∷ 0 ∷ 0 ∷ 0 ∷ 0 ∷ 0 ∷ 0 ∷ 0 ∷ 0 ∷ 0 ∷ 0 ∷ 0 ∷ 0 ∷ 0 ∷ [])
    ++ (9 ∷ 0 ∷ 0 ∷ 0 ∷ 1 ∷ 0 ∷ 0 ∷ 0 ∷ 1 ∷ 0 ∷ 5 ∷ 0 ∷ 6 ∷ 0 ∷ 0 ∷ 0 ∷ [])
    ++ (3 ∷ 0 ∷ 0 ∷ 2 ∷ 1 ∷ 0 ∷ 0 ∷ 0 ∷ 1 ∷ 1 ∷ 0 ∷ 0 ∷ 0 ∷ 0 ∷ 0 ∷ 0 ∷ [])
    ++ (17 ∷ 0 ∷ 0 ∷ 0 ∷ 0 ∷ 0 ∷ 0 ∷ 0 ∷ 1 ∷ 0 ∷ 0 ∷ 0 ∷ 0 ∷ 0 ∷ 0 ∷ 0 ∷ []))
    -- With B = 0 and resets 0, 0, picking 1 first is NOT READY
    ∷ plays dryer (START 0 (0 ∷ 0 ∷ []) ∷ pick 1 0 ∷ []) (goes dryer_0 ∷ refused NOT_READY dryer_0 ∷ [])
    -- ours: it waits at record 4; released, it is ready, and station 0 has ended, whose pick is ENDED
    ∷ tells dryer (START 0 (0 ∷ 0 ∷ []) ∷ []) (answer 0 0 ∷ answer NOT_READY 4 ∷ answer COMPONENT 0 ∷ [])
    ∷ tells dryer (START 0 (0 ∷ 0 ∷ []) ∷ pick 0 0 ∷ []) (answer ENDED 0 ∷ answer 0 0 ∷ answer COMPONENT 0 ∷ [])
    ∷ plays dryer (START 0 (0 ∷ 0 ∷ []) ∷ pick 0 0 ∷ pick 0 0 ∷ []) (goes dryer_0 ∷ goes dryer_1 ∷ refused ENDED dryer_1 ∷ [])
    -- ours: and after the undo of that step it waits again
    ∷ tells dryer (START 0 (0 ∷ 0 ∷ []) ∷ pick 0 0 ∷ UNDO ∷ []) (answer 0 0 ∷ answer NOT_READY 4 ∷ answer COMPONENT 0 ∷ [])
    -- ours: why each of them was not picked: at the start station 1 waits for variable 0, which is 0; then station 0 has ended; and back
    ∷ reasons dryer (START 0 (0 ∷ 0 ∷ []) ∷ []) (bare 0 ∷ waits 4 1 (0 ∷ 0 ∷ []) (0 ∷ 0 ∷ []) ∷ bare COMPONENT ∷ [])
    ∷ reasons dryer (START 0 (0 ∷ 0 ∷ []) ∷ pick 0 0 ∷ []) (bare ENDED ∷ bare 0 ∷ bare COMPONENT ∷ [])
    ∷ reasons dryer (START 0 (0 ∷ 0 ∷ []) ∷ pick 0 0 ∷ UNDO ∷ []) (bare 0 ∷ waits 4 1 (0 ∷ 0 ∷ []) (0 ∷ 0 ∷ []) ∷ bare COMPONENT ∷ [])
    -- ours: station 0 of the quartet waits for two variables, and its priority is the lowest; of the ready 1 and 2 have the lowest, and 3 is
    -- behind 1. After station 1's step station 0 is ready too, and 3 is behind 0
    ∷ reasons quartet (START 2 (0 ∷ 1 ∷ 1 ∷ 2 ∷ []) ∷ [])
    (waits 6 2 (2 ∷ 1 ∷ []) (9 ∷ 7 ∷ []) ∷ bare 0 ∷ bare 0 ∷ stands_behind 1 ∷ bare COMPONENT ∷ [])
    ∷ reasons quartet (START 2 (0 ∷ 1 ∷ 1 ∷ 2 ∷ []) ∷ pick 1 0 ∷ [])
    (bare 0 ∷ bare ENDED ∷ bare 0 ∷ stands_behind 0 ∷ bare COMPONENT ∷ [])
    -- ours: and P10's pair where picking 0 is TURN
    ∷ reasons pair (START 1 (0 ∷ 1 ∷ []) ∷ pick 0 0 ∷ pick 0 0 ∷ []) (stands_behind 1 ∷ bare 0 ∷ bare COMPONENT ∷ [])
    -- At the start variable 0 has read mask 2 and, as document 02 amends it, write mask 1
    ∷ lights_up dryer (START 0 (0 ∷ 0 ∷ []) ∷ []) (2 ∷ []) (1 ∷ [])
    -- ours: released, station 1 shows what its body does; after the undo of that step the body is out again
    ∷ lights_up dryer (START 0 (0 ∷ 0 ∷ []) ∷ pick 0 0 ∷ []) (2 ∷ []) (2 ∷ [])
    ∷ lights_up dryer (START 0 (0 ∷ 0 ∷ []) ∷ pick 0 0 ∷ UNDO ∷ []) (2 ∷ []) (1 ∷ [])
    -- ours: what a waiting station reads is both variables of its condition, and not what its body reads; again after an undo
    ∷ lights_up feeder (START 0 (0 ∷ 0 ∷ []) ∷ []) (2 ∷ 2 ∷ []) (1 ∷ [])
    ∷ lights_up feeder (START 0 (0 ∷ 0 ∷ []) ∷ pick 0 0 ∷ []) (2 ∷ 2 ∷ 0 ∷ 2 ∷ []) (0 ∷ 0 ∷ 2 ∷ [])
    ∷ lights_up feeder (START 0 (0 ∷ 0 ∷ []) ∷ pick 0 0 ∷ UNDO ∷ []) (2 ∷ 2 ∷ []) (1 ∷ [])
    -- ours: while it waits it is not passed over, though the step releases it
    ∷ passes dryer (START 0 (0 ∷ 0 ∷ []) ∷ pick 0 0 ∷ []) 1 0
    -- ours: a count stays where a station waits, also in the step that releases it, and goes on from there; its pick clears it, and the undo of
    -- that gives it back
    ∷ plays flicker (START 3 (0 ∷ 3 ∷ []) ∷ pick 0 0 ∷ pick 0 0 ∷ pick 0 0 ∷ pick 0 0 ∷ pick 1 2 ∷ UNDO ∷ UNDO ∷ [])
    (goes (flicker_at 0 2 3 0 0) ∷ goes (flicker_at 1 3 2 1 1) ∷ goes (flicker_at 1 4 2 1 2) ∷ goes (flicker_at 0 5 2 1 3) ∷ goes (flicker_at 0 6 1 2 4)
    ∷ goes (stands (0 ∷ []) (6 ∷ 9 ∷ []) (pos 0 ∷ pos 2 ∷ []) [] 3 5) ∷ goes (flicker_at 0 6 1 2 4) ∷ goes (flicker_at 0 5 2 1 3) ∷ [])
    ∷ counts_passed flicker (START 3 (0 ∷ 3 ∷ []) ∷ pick 0 0 ∷ pick 0 0 ∷ pick 0 0 ∷ pick 0 0 ∷ []) (0 ∷ 2 ∷ [])
    -- ours: and its refused pick, while it waits, leaves it
    ∷ counts_passed flicker (START 3 (0 ∷ 3 ∷ []) ∷ pick 0 0 ∷ pick 1 1 ∷ []) (0 ∷ 1 ∷ [])
    -- P12 "Dryer": picks 0, 1, then two undos give back the start state
    ∷ plays dryer (START 0 (0 ∷ 0 ∷ []) ∷ pick 0 0 ∷ pick 1 0 ∷ UNDO ∷ UNDO ∷ [])
    (goes dryer_0 ∷ goes dryer_1 ∷ goes dryer_2 ∷ goes dryer_1 ∷ goes dryer_0 ∷ [])
    -- ours: and then none stands
    ∷ leaves dryer (START 0 (0 ∷ 0 ∷ []) ∷ pick 0 0 ∷ pick 1 0 ∷ UNDO ∷ UNDO ∷ []) 0
    -- ours: the kept place of the pair after 64 steps, station by station in turn: variables, positions 2 and 5, priorities -1 and 0 and six
    -- zeros more, each 32,768 higher, counts 1 and 0, n = 2, B = 0, m = 64, bytes for an order; behind it junk
    ∷ keeps pair (START 0 (0 ∷ 0 ∷ []) ∷ RUN (joined (λ pick. pick) (replicate 32 (0 ∷ 0 ∷ 1 ∷ 0 ∷ []))) 99 ∷ [])
    (replicate 128 0 ++ (2 ∷ 0 ∷ 5 ∷ 0 ∷ replicate 12 0) ++ (255 ∷ 127 ∷ joined (λ zero. zero) (replicate 7 (0 ∷ 128 ∷ [])))
    ++ (1 ∷ replicate 15 0) ++ (2 ∷ 0 ∷ 64 ∷ 0 ∷ []) ++ replicate 4 0 ++ (7 ∷ []))
    -- ours: 66 steps, and back past the 64th, over a buffer of junk: each undo gives back the whole state before the step
    ∷ plays_long counter (START 1 (0 ∷ []) ∷ RUN (replicate 132 0) 99 ∷ UNDO ∷ UNDO ∷ UNDO ∷ [])
    (goes (at_while 0 0 0) ∷ goes (at_while 33 0 66) ∷ goes (at_set 32 0 65) ∷ goes (at_while 32 0 64) ∷ goes (at_set 31 0 63) ∷ [])
    -- ours: then the 64th step is taken with another reset, and an undo of the 65th gives back that one's state
    ∷ plays_long counter (START 1 (0 ∷ []) ∷ RUN (replicate 130 0) 99 ∷ UNDO ∷ UNDO ∷ pick 0 1 ∷ pick 0 0 ∷ UNDO ∷ [])
    (goes (at_while 0 0 0) ∷ goes (at_set 32 0 65) ∷ goes (at_while 32 0 64) ∷ goes (at_set 31 0 63) ∷ goes (at_while 32 1 64)
    ∷ goes (at_set 32 0 65) ∷ goes (at_while 32 1 64) ∷ [])
    -- ours: "A refused start's zeros don't count as a state answered"
    ∷ plays dryer (START 0 (0 ∷ 0 ∷ []) ∷ pick 0 0 ∷ START 0 [] ∷ []) (goes dryer_0 ∷ goes dryer_1 ∷ refused RESET dryer_1 ∷ [])
    -- "Dryer" with picks (0,0) (1,0) (255,0) (255,0) prints: 0 1 1 0 0; 1 2 2 0 0; 2 0 0 0 0; 1 2 2 0 0; 0 1 1 0 0; end 0; now with two counts more
    ∷ prints dryer (0 ∷ 0 ∷ 0 ∷ []) (0 ∷ 0 ∷ 1 ∷ 0 ∷ 255 ∷ 0 ∷ 255 ∷ 0 ∷ [])
    ((48 ∷ 32 ∷ 49 ∷ 32 ∷ 49 ∷ 32 ∷ 48 ∷ 32 ∷ 48 ∷ 32 ∷ 48 ∷ 32 ∷ 48 ∷ 10 ∷ [])
    ++ (49 ∷ 32 ∷ 50 ∷ 32 ∷ 50 ∷ 32 ∷ 48 ∷ 32 ∷ 48 ∷ 32 ∷ 48 ∷ 32 ∷ 48 ∷ 10 ∷ [])
    ++ (50 ∷ 32 ∷ 48 ∷ 32 ∷ 48 ∷ 32 ∷ 48 ∷ 32 ∷ 48 ∷ 32 ∷ 48 ∷ 32 ∷ 48 ∷ 10 ∷ [])
    ++ (49 ∷ 32 ∷ 50 ∷ 32 ∷ 50 ∷ 32 ∷ 48 ∷ 32 ∷ 48 ∷ 32 ∷ 48 ∷ 32 ∷ 48 ∷ 10 ∷ [])
    ++ (48 ∷ 32 ∷ 49 ∷ 32 ∷ 49 ∷ 32 ∷ 48 ∷ 32 ∷ 48 ∷ 32 ∷ 48 ∷ 32 ∷ 48 ∷ 10 ∷ [])
    ++ (101 ∷ 110 ∷ 100 ∷ 32 ∷ 48 ∷ 10 ∷ []))
    -- ours: and with picks (0,0) (0,0): 0 1 1 0 0 0 0; 1 2 2 0 0 0 0; end 16
    ∷ prints dryer (0 ∷ 0 ∷ 0 ∷ []) (0 ∷ 0 ∷ 0 ∷ 0 ∷ [])
    ((48 ∷ 32 ∷ 49 ∷ 32 ∷ 49 ∷ 32 ∷ 48 ∷ 32 ∷ 48 ∷ 32 ∷ 48 ∷ 32 ∷ 48 ∷ 10 ∷ [])
    ++ (49 ∷ 32 ∷ 50 ∷ 32 ∷ 50 ∷ 32 ∷ 48 ∷ 32 ∷ 48 ∷ 32 ∷ 48 ∷ 32 ∷ 48 ∷ 10 ∷ [])
    ++ (101 ∷ 110 ∷ 100 ∷ 32 ∷ 49 ∷ 54 ∷ 10 ∷ []))
    -- ours: P10's pair with picks (0,0) (0,0) (1,1), and back: 0 3 1 0 1 0 0; 1 3 3 0 0 0 1; 2 3 2 0 -1 0 2; 3 3 1 -1 1 1 0; and the third again; end 0
    ∷ prints pair (1 ∷ 0 ∷ 1 ∷ []) (0 ∷ 0 ∷ 0 ∷ 0 ∷ 1 ∷ 1 ∷ 255 ∷ 0 ∷ [])
    ((48 ∷ 32 ∷ 51 ∷ 32 ∷ 49 ∷ 32 ∷ 48 ∷ 32 ∷ 49 ∷ 32 ∷ 48 ∷ 32 ∷ 48 ∷ 10 ∷ [])
    ++ (49 ∷ 32 ∷ 51 ∷ 32 ∷ 51 ∷ 32 ∷ 48 ∷ 32 ∷ 48 ∷ 32 ∷ 48 ∷ 32 ∷ 49 ∷ 10 ∷ [])
    ++ (50 ∷ 32 ∷ 51 ∷ 32 ∷ 50 ∷ 32 ∷ 48 ∷ 32 ∷ 45 ∷ 49 ∷ 32 ∷ 48 ∷ 32 ∷ 50 ∷ 10 ∷ [])
    ++ (51 ∷ 32 ∷ 51 ∷ 32 ∷ 49 ∷ 32 ∷ 45 ∷ 49 ∷ 32 ∷ 49 ∷ 32 ∷ 49 ∷ 32 ∷ 48 ∷ 10 ∷ [])
    ++ (50 ∷ 32 ∷ 51 ∷ 32 ∷ 50 ∷ 32 ∷ 48 ∷ 32 ∷ 45 ∷ 49 ∷ 32 ∷ 48 ∷ 32 ∷ 50 ∷ 10 ∷ [])
    ++ (101 ∷ 110 ∷ 100 ∷ 32 ∷ 48 ∷ 10 ∷ []))
    ∷ []

all_hold : Every table
unfolding each first tally mask values changed joined written judge record_from list_record_at rules_of fields_right stride wrong_at walked well_shaped too_deep_at check wrong_length field_place station_count depth_place parts_of stations_of leading_sets initial_part size laid inits bodies list_of bytes_of build stations initials_after is_at init_right initial_right outside_targets inside_target inside_targets later_right sound_list few_low empty_at sound_state set_value holds initial_run started start_records start readiness_at readiness ended waiting ready lowest body_run step_vars step_position charge counts_after stepped picked encoded kept_state kept_zeros kept_right keep step steps_from run replay starts_right restarted replayed_near undo asked waits_for first_in_turn reason why reads writes led_to body some_of touches lights decimal_digits entries_text line end_line taken_pick picks_text run_text start_text trace stepped_on single_steps called calls_from answers passed_over since_pick
all_hold =
    refl and refl and refl and refl and refl and refl and refl and refl and refl and refl
    and refl and refl and refl and refl and refl and refl and refl and refl and refl and refl and refl and refl and refl and refl and refl and refl and refl and refl and refl and refl
    and refl and refl and refl and refl and refl and refl and refl and refl and refl and refl and refl and refl and refl and refl and refl and refl and refl and refl and refl and refl
    and refl and refl and refl and refl and done
