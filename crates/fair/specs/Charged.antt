-- What a step does to the priorities and the counts, for any list, state and pick. These are claims, and proofs/Charge.antt shows each.
use Rattle.std.specs.Prelude.{◌≡◌, true, false, List, ℕ, suc, ◌≤◌, ◌<◌, length, pos, neg_ℤ}
use Rattle.std.specs.Int.Signed.{le_z}
use Rattle.rules.specs.Records.{Pick}
use Rattle.rules.specs.State.{State, priority, count, in_bound, few_low}
use Rattle.rules.specs.Ready.{ready}
use Rattle.rules.specs.Step.{stepped}
use Rattle.fair.specs.Fair.{Sch}

-- FAIR lets station i be picked: it is ready, with the lowest priority number among the ready
abbrev pub Chosen : List ℕ → State → ℕ → Type 0
Chosen list s i = Sch s.n (ready list s) (priority s) i

-- "for each k from 1 to n at most n-k of them are -k or lower" is kept, for every n
abbrev pub FewLowKept : Type 0
FewLowKept =
    (list : List ℕ) (s : State) (p : Pick) → Chosen list s p.station
    → ((i : ℕ) → i < s.n → few_low s (suc i) ≡ true)
    → (i : ℕ) → i < s.n → few_low (stepped list s p) (suc i) ≡ true

-- and it keeps every number above -n, since at most n-n of them are -n or lower
abbrev pub AboveLow : Type 0
AboveLow =
    (s : State) → ((i : ℕ) → i < s.n → few_low s (suc i) ≡ true)
    → (j : ℕ) → j < s.n → le_z (priority s j) (neg_ℤ (pos s.n)) ≡ false

-- document 02, T-05: "each station's priority plus its count is at most B" is kept, where each station has both
abbrev pub BoundKept : Type 0
BoundKept =
    (list : List ℕ) (s : State) (p : Pick) → s.n ≤ length s.priorities → s.n ≤ length s.counts → p.reset ≤ s.b
    → ((j : ℕ) → j < s.n → in_bound s.b (priority s j) (count s j) ≡ true)
    → (j : ℕ) → j < s.n → in_bound s.b (priority (stepped list s p) j) (count (stepped list s p) j) ≡ true

-- entries from n on stay
abbrev pub RestKept : Type 0
RestKept =
    (list : List ℕ) (s : State) (p : Pick) (j : ℕ) → s.n ≤ j
    → (priority (stepped list s p) j ≡ priority s j) × (count (stepped list s p) j ≡ count s j)

-- as many entries as before
abbrev pub LengthKept : Type 0
LengthKept =
    (list : List ℕ) (s : State) (p : Pick)
    → (length (stepped list s p).priorities ≡ length s.priorities) × (length (stepped list s p).counts ≡ length s.counts)
