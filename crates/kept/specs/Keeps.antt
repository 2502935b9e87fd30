-- Kept places: what is written to one is read back whole, and the others stay. These are claims, and proofs/Back.antt, proofs/Elsewhere.antt and
-- proofs/Keep.antt show them.
use Rattle.std.specs.Prelude.{◌≡◌, ◌≢◌, true, List, ℕ, ◌+◌, ◌*◌, ◌≤◌, length}
use Rattle.rules.specs.Words.{written}
use Rattle.rules.specs.Names.{max_kept, kept_every, kept_length}
use Rattle.rules.specs.State.{State}
use Rattle.rules.specs.Kept.{kept_offset, encoded, kept_state, kept_zeros, keep}
use Rattle.laws.specs.Passed.{Known}
use Rattle.fair.specs.Sound.{Held}

-- kept place j holds the state
pub record HasState (kept : List ℕ) (j : ℕ) (s : State) : Type 0 where
  pub state_is : kept_state kept j ≡ s
  pub zeros_are : kept_zeros kept j ≡ true

-- a buffer has the kept place
abbrev pub HasPlace : List ℕ → ℕ → Type 0
HasPlace kept j = kept_offset j + kept_length ≤ length kept

-- a sound state that is written to a kept place is kept there
abbrev pub KeptBack : Type 0
KeptBack =
    (list kept : List ℕ) (s : State) (j : ℕ) → Held s → Known list s → HasPlace kept j
    → HasState (written kept (kept_offset j) (encoded s)) j s

-- and what another kept place holds it holds still
abbrev pub KeptElsewhere : Type 0
KeptElsewhere =
    (kept : List ℕ) (s t : State) (j k : ℕ) → Held s → HasPlace kept k → 1 ≤ j → 1 ≤ k → j ≢ k → HasState kept j t
    → HasState (written kept (kept_offset k) (encoded s)) j t

-- so a state that is reached stands in its kept place, if it has one, and every other place holds what it held
abbrev pub KeepKeeps : Type 0
KeepKeeps =
    (list kept : List ℕ) (s : State) → Held s → Known list s → 1 ≤ s.m → kept_length * max_kept ≤ length kept
    → (j : ℕ) → 1 ≤ j → (t : State) → (s.m ≡ kept_every * j → t ≡ s) → (s.m ≢ kept_every * j → HasState kept j t) → HasState (keep kept s) j t

-- and the buffer is as long as it was
abbrev pub KeepLong : Type 0
KeepLong =
    (list kept : List ℕ) (s : State) → Held s → Known list s → kept_length * max_kept ≤ length kept → length (keep kept s) ≡ length kept
