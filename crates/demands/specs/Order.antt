-- Demand 1, of any seven calls: the numbers of each call, and the order in which they are tested, written out once more as a chain of
-- choices; and what a refusal leaves. These are claims, and proofs/Order.antt shows them of the rules' calls.
use Rattle.std.specs.Prelude.{◌≡◌, ◌↔◌, ◌≢◌, ◌&&◌, not, List, [], ◌∷◌, ℕ, ◌+◌, ◌*◌, ◌%◌, ◌<◌, eqb, leb, ltb, length, if◌then◌else◌}
use Rattle.rules.specs.Words.{first, answer}
use Rattle.rules.specs.Names.{SHAPE, DEPTH}
use Rattle.rules.specs.Records.{record_count, Pick}
use Rattle.rules.specs.Shape.{well_shaped, shape_place}
use Rattle.rules.specs.Check.{kinds, wrong_length, field_place, station_count, depth_place}
use Rattle.rules.specs.Build.{list_records}
use Rattle.rules.specs.List.{stations, sound_list}
use Rattle.rules.specs.State.{State, zeros, sound_state}
use Rattle.rules.specs.Lent.{Lent}
use Rattle.rules.specs.Kept.{kept_right}
use Rattle.rules.specs.Start.{wrong_resets}
use Rattle.rules.specs.Ready.{ended, waiting, lowest}
use Rattle.rules.specs.Undo.{starts_right, nearest, replayed_near}
use Rattle.rules.specs.Lights.{dark}
use Rattle.rules.specs.Calls.{Seven}
use Rattle.grammar.specs.Grammar.{Sequence}
use Rattle.grammar.specs.Meaning.{Fault, Passes-three, seventeenth}

-- check: 1, 2, 3, 4, 5, each with its place
abbrev pub CheckOrder : Seven → Type 0
CheckOrder bench =
    (file : List ℕ)
    → bench.check file
    ≡ (if wrong_length file then answer 1 0
    else if ltb (field_place file) (record_count file) then answer 2 (field_place file)
    else if not (leb 1 (station_count file) && leb (station_count file) 8) then answer 3 0
    else if not (well_shaped (kinds file)) then answer 4 (shape_place (kinds file))
    else if ltb (depth_place file) (record_count file) then answer 5 (depth_place file)
    else answer 0 0)

-- what 4 and 5 and their places mean, of a file that passes the first three tests: "the first record after which no continuation of any
-- length (any depth, any number of stations) is well shaped; if there is none and the file is unfinished, the number of records", and "first
-- record that is the seventeenth open"
pub record Shapes (bench : Seven) (file : List ℕ) : Type 0 where
  pub fault : (i : ℕ) → (bench.check file ≡ answer SHAPE i) ↔ Fault (kinds file) i
  pub shaped : ((bench.check file).number ≡ SHAPE → ⊥) ↔ Sequence (kinds file)
  pub deep : Sequence (kinds file) → (i : ℕ)
      → (bench.check file ≡ answer DEPTH i) ↔ ((i < record_count file) × (first (seventeenth (kinds file)) (record_count file) ≡ i))

abbrev pub CheckShapes : Seven → Type 0
CheckShapes bench = (file : List ℕ) → Passes-three file → Shapes bench file

-- build: check's, then 6; the place is check's, and 0 with ROOM
abbrev pub BuildOrder : Seven → Type 0
BuildOrder bench =
    (file buffer : List ℕ)
    → ((bench.build file buffer).number
    ≡ (if eqb (bench.check file).number 0 then (if ltb (length buffer) (16 * length (list_records file)) then 6 else 0)
    else (bench.check file).number))
    × ((bench.build file buffer).place ≡ (bench.check file).place)

-- start: 7, 13, 6, 6; the kept states take 64 times 184 bytes
abbrev pub StartOrder : Seven → Type 0
StartOrder bench =
    (list : List ℕ) (b : ℕ) (resets : List ℕ) (lent : Lent)
    → (bench.start list b resets lent).number
    ≡ (if not (sound_list list) then 7
    else if wrong_resets list b resets then 13
    else if ltb (length lent.log) (2 * stations list) then 6
    else if ltb (length lent.kept) 11776 then 6
    else 0)

-- step: 7, 8, 9, 6, 6, 10, 16, 11, 12, 13
abbrev pub StepOrder : Seven → Type 0
StepOrder bench =
    (list : List ℕ) (s : State) (lent : Lent) (p : Pick)
    → (bench.step list s lent p).number
    ≡ (if not (sound_list list) then 7
    else if not (sound_state list s) then 8
    else if eqb s.m 4096 then 9
    else if ltb (length lent.log) (2 * (s.n + s.m + 1)) then 6
    else if ltb (length lent.kept) 11776 then 6
    else if leb s.n p.station then 10
    else if ended list s p.station then 16
    else if waiting list s p.station then 11
    else if not (lowest list s p.station) then 12
    else if ltb s.b p.reset then 13
    else 0)

-- run, before any step: 1, 7, 8
abbrev pub before_steps : List ℕ → State → List ℕ → ℕ
before_steps list s picks =
    if eqb (length picks % 2) 1 then 1
    else if not (sound_list list) then 7
    else if not (sound_state list s) then 8
    else 0

-- undo: 7, 8, 14, 6, 8, 15; the second 8 where a kept state is used, and the start records judged where none is
abbrev pub UndoOrder : Seven → Type 0
UndoOrder bench =
    (list : List ℕ) (s : State) (lent : Lent)
    → (bench.undo list s lent).number
    ≡ (if not (sound_list list) then 7
    else if not (sound_state list s) then 8
    else if eqb s.m 0 then 14
    else if ltb (length lent.kept) 11776 then 6
    else if not (eqb (nearest s.m) 0) && not (kept_right list lent.kept s.b (nearest s.m)) then 8
    else if ltb (length lent.log) (2 * (s.n + s.m)) then 15
    else if eqb (nearest s.m) 0 && not (starts_right list s.b lent.log) then 15
    else if not (eqb (replayed_near list lent s.b s.m).number 0) then 15
    else 0)

-- lights: 7, 8
abbrev pub LightsOrder : Seven → Type 0
LightsOrder bench =
    (list : List ℕ) (s : State)
    → (bench.lights list s).number ≡ (if not (sound_list list) then 7 else if not (sound_state list s) then 8 else 0)

-- "A refusal answers its number and the state given (start and lights: all zeros) and writes to no lent buffer"
pub record RefusalLeaves (bench : Seven) : Type 0 where
  pub by_build : (file buffer : List ℕ) → (bench.build file buffer).number ≢ 0
      → ((bench.build file buffer).buffer ≡ buffer) × ((bench.build file buffer).count ≡ 0)
  pub by_start : (list : List ℕ) (b : ℕ) (resets : List ℕ) (lent : Lent) → (bench.start list b resets lent).number ≢ 0
      → ((bench.start list b resets lent).state ≡ zeros) × ((bench.start list b resets lent).lent ≡ lent)
  pub by_step : (list : List ℕ) (s : State) (lent : Lent) (p : Pick) → (bench.step list s lent p).number ≢ 0
      → ((bench.step list s lent p).state ≡ s) × ((bench.step list s lent p).lent ≡ lent)
  pub by_undo : (list : List ℕ) (s : State) (lent : Lent) → (bench.undo list s lent).number ≢ 0 → (bench.undo list s lent).state ≡ s
  pub by_lights : (list : List ℕ) (s : State) → (bench.lights list s).number ≢ 0
      → ((bench.lights list s).ready ≡ 0) × ((bench.lights list s).in_turn ≡ 0) × ((bench.lights list s).waiting ≡ 0)
      × ((bench.lights list s).ended ≡ 0) × ((bench.lights list s).rows ≡ dark ∷ dark ∷ [])
