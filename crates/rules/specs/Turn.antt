-- The pick order, FAIR, of any readiness: whose turn it is among n stations, and what a pick does to their priority numbers and their counts
-- of being passed over. These are definitions.
use Rattle.std.specs.Prelude.{ℕ, suc, Bool, ◌||◌, not, List, eqb, ℤ, pos, ◌-ℤ◌, if◌then◌else◌}
use Rattle.std.specs.Int.Signed.{le_z}
use Rattle.rules.specs.Words.{each, changed}
use Rattle.rules.specs.Records.{Pick}

-- a station of priority q, ready or not, does not come before one of priority p
abbrev pub yields_to : Bool → ℤ → ℤ → Bool
yields_to ready p q = not ready || le_z p q

-- "the lowest priority number among the ready, ties free": no ready station has a lower one than station i
abbrev pub lowest_of : ℕ → (ℕ → Bool) → (ℕ → ℤ) → ℕ → Bool
lowest_of n ready priority i = each (λ j. yields_to (ready j) (priority i) (priority j)) n

-- "it gets the reset, each other ready station loses 1, others stay": one station's priority
abbrev pub charged : Bool → Bool → ℕ → ℤ → ℤ
charged picked ready reset p = if picked then pos reset else if ready then p -ℤ pos 1 else p

-- and beside it, document 02, T-05, "times ready and passed over since the station's last pick": its count
abbrev pub counted : Bool → Bool → ℕ → ℕ
counted picked ready c = if picked then 0 else if ready then suc c else c

-- both of the first n of all
abbrev pub charge_of : ℕ → (ℕ → Bool) → Pick → List ℤ → List ℤ
charge_of n ready p = changed (λ j. charged (eqb j p.station) (ready j) p.reset) n

abbrev pub count_of : ℕ → (ℕ → Bool) → Pick → List ℕ → List ℕ
count_of n ready p = changed (λ j. counted (eqb j p.station) (ready j)) n
