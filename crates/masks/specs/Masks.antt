-- The masks of the stations from one on, as the code gathers them from the last station down. These are definitions.
use Rattle.std.specs.Prelude.{Bool, false, List, ℕ, ◌+◌, ◌-◌, ◌*◌, ◌<◌, min, get_or, ℤ, if◌then◌else◌}
use Rattle.rules.specs.Words.{mask, values}
use Rattle.rules.specs.Names.{variables, max_stations}
use Rattle.rules.specs.Records.{Record}
use Rattle.rules.specs.State.{State, stepless, no_counts}
use Rattle.rules.specs.Ready.{Readiness, next_step, says_ready, says_ended, says_waiting, ready, waiting, ended}
use Rattle.rules.specs.Lights.{reads, writes, in_turn}
use Rattle.touches.specs.Touched.{touched}
use Rattle.touches.specs.declared.Touched.{Touched}
use Rattle.masks.specs.declared.Masks.{Masks}

-- a mask with a place more before its own
abbrev pub with_bit : Bool → ℕ → ℕ
with_bit bit mask = (if bit then 1 else 0) + 2 * mask

-- the places j to n-1 at which the test holds, as a mask: place j is bit 0
unfoldable pub mask_from : (ℕ → Bool) → ℕ → ℕ → ℕ
mask_from f n j = mask (λ i. f (j + i)) (n - j)

-- the stations from j on whose next step does this
abbrev pub does_from : (Record → Bool) → List ℕ → State → ℕ → ℕ
does_from does list s j = mask_from (λ i. touched does list (next_step list s i) (ready list s i)) s.n j

-- a row, of the stations from j on
abbrev pub row_from : (ℕ → Record → Bool) → List ℕ → State → ℕ → List ℕ
row_from does list s j = values (λ v. does_from (does v) list s j) variables

abbrev pub masks_from : List ℕ → State → ℕ → Masks
masks_from list s j =
    record {
      ready = mask_from (ready list s) s.n j;
      in_turn = mask_from (in_turn list s) s.n j;
      waiting = mask_from (waiting list s) s.n j;
      ended = mask_from (ended list s) s.n j;
      reads = row_from reads list s j;
      writes = row_from writes list s j;
    }

-- a state of these parts and of eight stations at most: the masks do not depend on its counts, b and m
abbrev pub state_of : List ℕ → List ℕ → List ℤ → ℕ → State
state_of vars positions priorities n = stepless vars positions priorities no_counts (min n max_stations) 0

-- each mask has room for a station more
pub record Room (masks : Masks) : Type 0 where
  pub ready : masks.ready < 128
  pub turn : masks.in_turn < 128
  pub waiting : masks.waiting < 128
  pub ended : masks.ended < 128
  pub reads : (v : ℕ) → v < variables → get_or masks.reads v 0 < 128
  pub writes : (v : ℕ) → v < variables → get_or masks.writes v 0 < 128

-- a row with a station more before its own, which touches these variables
abbrev pub row_with : List Bool → List ℕ → List ℕ
row_with touched row = values (λ v. with_bit (get_or touched v false) (get_or row v 0)) variables

-- the masks with a station more before their own
abbrev pub with_station : Masks → Readiness → Bool → Touched → Masks
with_station masks case in_turn touched =
    record {
      ready = with_bit (says_ready case) masks.ready;
      in_turn = with_bit in_turn masks.in_turn;
      waiting = with_bit (says_waiting case) masks.waiting;
      ended = with_bit (says_ended case) masks.ended;
      reads = row_with touched.reads masks.reads;
      writes = row_with touched.writes masks.writes;
    }
