-- What an answer of LIGHTS shows of a list and a state, bit by bit, without regard to how it is computed; and the claims that the rules'
-- answer shows this, that three of its masks split the stations, that a waiting station lights its condition alone, and that no second
-- answer shows the same. proofs/Shown.antt, proofs/Split.antt, proofs/Waiting.antt and proofs/Only.antt show them.
use Rattle.std.specs.Prelude.{◌≡◌, ◌↔◌, ◌⊎◌, Bool, true, false, List, [], ℕ, zero, suc, ◌/◌, ◌%◌, ◌≤◌, ◌<◌, eqb, length, get_or}
use Rattle.std.specs.Int.Signed.{le_z}
use Rattle.rules.specs.Names.{AWAIT, variables}
use Rattle.rules.specs.Records.{Record, list_record_at}
use Rattle.rules.specs.State.{State, priority}
use Rattle.rules.specs.Ready.{next_step, ready, waiting, ended}
use Rattle.rules.specs.Lights.{reads, writes, Lights}
use Rattle.rules.specs.Calls.{Seven}
use Rattle.laws.specs.Tells.{ExactlyOne}
use Rattle.lit.specs.Reached.{Reached}

-- bit i of a mask
unfoldable pub bit : ℕ → ℕ → Bool
bit m zero = eqb (m % 2) 1
bit m (suc i) = bit (m / 2) i

-- station j's next step does this: its own record does, or it is an AWAIT, the station is ready and some record of its body does, "branches not
-- taken included", where "its body is every record reached from its t1 by targets of inside records"
pub data Touches (does : Record → Bool) (list : List ℕ) (s : State) (j : ℕ) : Type 0 where
  by_itself : does (next_step list s j).own ≡ true → Touches does list s j
  by_body : {p : ℕ} → (next_step list s j).own.kind ≡ AWAIT → ready list s j ≡ true → Reached list (next_step list s j).t1 p
      → does (list_record_at list p).own ≡ true → Touches does list s j

-- "bit i for station i": the mask has the bits of the stations of which this is so, and no others
abbrev pub Marks : State → ℕ → (ℕ → Type 0) → Type 0
Marks s mask P = (j : ℕ) → (bit mask j ≡ true) ↔ ((j < s.n) × P j)

-- a row of "32 masks", one for each variable
pub record MarksRow (s : State) (row : List ℕ) (P : ℕ → ℕ → Type 0) : Type 0 where
  pub long : length row ≡ variables
  pub marks : (v : ℕ) → v < variables → Marks s (get_or row v 0) (P v)

-- "in turn, that is ready with no ready station of lower priority number"
abbrev pub HasTurn : List ℕ → State → ℕ → Type 0
HasTurn list s j =
    (ready list s j ≡ true) × ((k : ℕ) → k < s.n → ready list s k ≡ true → le_z (priority s j) (priority s k) ≡ true)

-- "four station masks, bit i for station i (ready; in turn …; waiting; ended), and two rows of 32 masks: which stations' next steps read,
-- and which write, each variable"
pub record Shows (list : List ℕ) (s : State) (a : Lights) : Type 0 where
  pub on_ready : Marks s a.ready (λ j. ready list s j ≡ true)
  pub on_in_turn : Marks s a.in_turn (HasTurn list s)
  pub on_waiting : Marks s a.waiting (λ j. waiting list s j ≡ true)
  pub on_ended : Marks s a.ended (λ j. ended list s j ≡ true)
  pub two_rows : length a.rows ≡ 2
  pub on_reads : MarksRow s (get_or a.rows 0 []) (λ v j. Touches (reads v) list s j)
  pub on_writes : MarksRow s (get_or a.rows 1 []) (λ v j. Touches (writes v) list s j)

-- the masks of the ready, the ended and the waiting split the n stations: each of those has exactly one of the three bits, and no other
-- bit is lit
pub record Splits (s : State) (a : Lights) : Type 0 where
  pub each_once : (j : ℕ) → j < s.n → ExactlyOne (bit a.ready j) (bit a.ended j) (bit a.waiting j)
  pub no_others : (j : ℕ) → s.n ≤ j → (bit a.ready j ≡ false) × (bit a.ended j ≡ false) × (bit a.waiting j ≡ false)

abbrev pub MasksSplit : Seven → Type 0
MasksSplit bench = (list : List ℕ) (s : State) → (bench.lights list s).number ≡ 0 → Splits s (bench.lights list s)

-- the condition of a record asks of variable v: its b, or, of conditions 4 to 7, its k
abbrev pub AsksOf : Record → ℕ → Type 0
AsksOf r v = (r.b ≡ v) ⊎ ((4 ≤ r.op) × (r.k ≡ v))

-- document 02, T-02: "a waiting AWAIT reads only the variables of its condition and writes none". Station j's bits in the two rows
pub record LitAsWaiting (list : List ℕ) (s : State) (a : Lights) (j : ℕ) : Type 0 where
  pub at_await : (next_step list s j).own.kind ≡ AWAIT
  pub reads_condition : (v : ℕ) → v < variables
      → (bit (get_or (get_or a.rows 0 []) v 0) j ≡ true) ↔ AsksOf (next_step list s j).own v
  pub writes_none : (v : ℕ) → v < variables → bit (get_or (get_or a.rows 1 []) v 0) j ≡ false

-- each waiting station of the list is lit so
abbrev pub WaitingLit : Seven → Type 0
WaitingLit bench =
    (list : List ℕ) (s : State) → (bench.lights list s).number ≡ 0 → (j : ℕ) → j < s.n → waiting list s j ≡ true
    → LitAsWaiting list s (bench.lights list s) j

-- an answer that is not a refusal shows this, of any seven calls
abbrev pub LightsShow : Seven → Type 0
LightsShow bench = (list : List ℕ) (s : State) → (bench.lights list s).number ≡ 0 → Shows list s (bench.lights list s)

-- and no second answer shows the same
abbrev pub ShowsOnly : Type 0
ShowsOnly =
    (list : List ℕ) (s : State) (a b : Lights) → a.number ≡ b.number → Shows list s a → Shows list s b → a ≡ b
