-- What BUILD, START, STEP and UNDO do where they are not refused, of any seven calls, on any list that is sound. These are definitions and
-- claims, and proofs/Does.antt shows the claims of the rules' calls.
use Rattle.std.specs.Prelude.{◌≡◌, ◌↔◌, List, ℕ, ◌+◌, ◌*◌, ◌≤◌, ◌<◌, eqb, length, take, drop, get_or, replicate, pos, if◌then◌else◌}
use Rattle.rules.specs.Names.{variables}
use Rattle.rules.specs.Records.{list_record_at, Pick}
use Rattle.rules.specs.Build.{Built, list_records}
use Rattle.rules.specs.List.{stations, initials}
use Rattle.rules.specs.State.{State, position, priority, count}
use Rattle.rules.specs.Lent.{Lent}
use Rattle.rules.specs.Start.{initial_run, with_starts}
use Rattle.rules.specs.Step.{with_step}
use Rattle.rules.specs.Ready.{next_step, ready}
use Rattle.rules.specs.Move.{step_vars, step_position}
use Rattle.rules.specs.Undo.{replayed_near}
use Rattle.rules.specs.Calls.{Seven}
use Rattle.laws.specs.Passed.{CanStart}
use Rattle.reading.specs.Accepted.{Accepted}
use Rattle.built.specs.Built.{built}
use Rattle.fair.specs.Fair.{Sch, Update, Counted}
use Rattle.fair.specs.Sound.{Held}

-- BUILD takes a file that check accepts, and leaves its list in the front of the buffer; "bytes past the list stay"
pub record Lays (file buffer : List ℕ) (a : Built) : Type 0 where
  pub accepted : Accepted file
  pub counted : a.count ≡ length (list_records file)
  pub list_is : take (16 * a.count) a.buffer ≡ built file
  pub rest_stays : drop (16 * a.count) a.buffer ≡ drop (16 * a.count) buffer

abbrev pub BuildLays : Seven → Type 0
BuildLays bench = (file buffer : List ℕ) → (bench.build file buffer).number ≡ 0 → Lays file buffer (bench.build file buffer)

-- START takes what it needs, and nothing else
abbrev pub StartTaken : Seven → Type 0
StartTaken bench = (list : List ℕ) (b : ℕ) (resets : List ℕ) (lent : Lent) → ((bench.start list b resets lent).number ≡ 0) ↔ CanStart list b resets lent

-- "It runs the initial part and sets priorities to the resets"; variables begin at 0, a station at its INIT's t1; none was passed over; the B is
-- the one given, and no step stands
pub record Begins (list : List ℕ) (b : ℕ) (resets : List ℕ) (t : State) : Type 0 where
  pub held : Held t
  pub vars : t.vars ≡ initial_run list (stations list) (initials list) (replicate variables 0)
  pub positions : (j : ℕ) → j < stations list → position t j ≡ (list_record_at list j).t1
  pub priorities : (j : ℕ) → j < stations list → priority t j ≡ pos (get_or resets j 0)
  pub rest : (j : ℕ) → stations list ≤ j → (position t j ≡ 0) × (priority t j ≡ pos 0)
  pub counts : (j : ℕ) → count t j ≡ 0
  pub n_is : t.n ≡ stations list
  pub b_is : t.b ≡ b
  pub m_is : t.m ≡ 0

abbrev pub StartBegins : Seven → Type 0
StartBegins bench =
    (list : List ℕ) (b : ℕ) (resets : List ℕ) (lent : Lent) → (bench.start list b resets lent).number ≡ 0
    → Begins list b resets (bench.start list b resets lent).state
    × ((bench.start list b resets lent).lent ≡ with_starts lent resets)

-- STEP: the pick satisfies FAIR's SCH, judged before the step. "SKIP, SET, one test, and AWAIT with its body are one step each": the
-- variables and the station's position after its next step; no other station moves. The priorities satisfy UPDATE, those passed over are counted,
-- and all else stays but m. The step's record is written to the log, and the state that it answers to its kept place, where it has one
pub record Does (list : List ℕ) (s : State) (p : Pick) (t : State) : Type 0 where
  pub held : Held t
  pub chosen : Sch s.n (ready list s) (priority s) p.station
  pub vars : t.vars ≡ step_vars list s.vars (next_step list s p.station)
  pub positions : (j : ℕ)
      → position t j ≡ (if eqb j p.station then step_position s.vars (next_step list s p.station) else position s j)
  pub priorities : Update s.n (ready list s) s.b (priority s) (priority t) p.station p.reset
  pub counts : Counted s.n (ready list s) (count s) (count t) p.station
  pub rest : (j : ℕ) → s.n ≤ j → (priority t j ≡ priority s j) × (count t j ≡ count s j)
  pub n_is : t.n ≡ s.n
  pub b_is : t.b ≡ s.b
  pub m_is : t.m ≡ s.m + 1

abbrev pub StepDoes : Seven → Type 0
StepDoes bench =
    (list : List ℕ) (s : State) (lent : Lent) (p : Pick) → Held s → (bench.step list s lent p).number ≡ 0
    → Does list s p (bench.step list s lent p).state
    × ((bench.step list s lent p).lent ≡ with_step lent s p (bench.step list s lent p).state)

-- UNDO: "the state reached by replaying the first n+m-1 records", from the nearest kept state at or below that where there is one; whatever state is given,
-- it depends on no more of it than B and m
abbrev pub UndoReplays : Seven → Type 0
UndoReplays bench =
    (list : List ℕ) (s : State) (lent : Lent) → (bench.undo list s lent).number ≡ 0
    → (bench.undo list s lent).state ≡ (replayed_near list lent s.b s.m).state
