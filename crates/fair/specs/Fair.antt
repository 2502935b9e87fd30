-- FAIR, as document 002 writes it (section 4.1), for n stations: `ready` says which are enabled, the set E, and z, z' are their priority
-- numbers before and after. Each is a relation, with no word of how a step is made. These are definitions.
use Rattle.std.specs.Prelude.{◌≡◌, ◌≢◌, Bool, true, false, ℕ, suc, ◌+◌, ◌≤◌, ◌<◌, ℤ, pos, neg_ℤ, ◌-ℤ◌}
use Rattle.std.specs.Int.Signed.{le_z}
use Rattle.rules.specs.Words.{tally}

-- "SCHi ≡ zi = min {zk | k ∈ E}": station i is ready, and no ready station has a lower number
pub record Sch (n : ℕ) (ready : ℕ → Bool) (z : ℕ → ℤ) (i : ℕ) : Type 0 where
  pub station : i < n
  pub enabled : ready i ≡ true
  pub lowest : (k : ℕ) → k < n → ready k ≡ true → le_z (z i) (z k) ≡ true

-- "UPDATEi ≡ zi := ?; for all j ∈ {1, …, n} - {i} do if j ∈ E then zj := zj - 1 fi od": here ? is a reset, from 0 to b
pub record Update (n : ℕ) (ready : ℕ → Bool) (b : ℕ) (z z' : ℕ → ℤ) (i reset : ℕ) : Type 0 where
  pub bounded : reset ≤ b
  pub picked : z' i ≡ pos reset
  pub charged : (j : ℕ) → j < n → j ≢ i → ready j ≡ true → z' j ≡ z j -ℤ pos 1
  pub stays : (j : ℕ) → j < n → j ≢ i → ready j ≡ false → z' j ≡ z j

-- document 02, T-05, beside it: c and c' count the "times ready and passed over since the station's last pick, or since the start"
pub record Counted (n : ℕ) (ready : ℕ → Bool) (c c' : ℕ → ℕ) (i : ℕ) : Type 0 where
  pub picked : c' i ≡ 0
  pub passed : (j : ℕ) → j < n → j ≢ i → ready j ≡ true → c' j ≡ suc (c j)
  pub stays : (j : ℕ) → j < n → j ≢ i → ready j ≡ false → c' j ≡ c j

-- "INV": for each k from 1 to n, "card {i | zi ≤ -k} ≤ n - k"; here k is suc i
abbrev pub Inv : ℕ → (ℕ → ℤ) → Type 0
Inv n z = (i : ℕ) → i < n → tally (λ j. le_z (z j) (neg_ℤ (pos (suc i)))) n + suc i ≤ n
