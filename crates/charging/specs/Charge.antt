-- FAIR's charge of a priority of 16 bits, and a count of as many. These are definitions.
use Rattle.std.specs.Prelude.{ℕ, suc, Bool, false, List, leb, get_or, ℤ, pos, neg_ℤ, ◌-ℤ◌, if◌then◌else◌}
use Rattle.std.specs.Int.Signed.{le_z}

-- one less, as far as 16 bits go
abbrev pub lowered : ℤ → ℤ
lowered p = if le_z p (neg_ℤ (pos 32768)) then p else (p -ℤ pos 1)

-- the rules' `charged`, with that
abbrev pub held_charge : Bool → Bool → ℕ → ℤ → ℤ
held_charge picked ready reset p = if picked then pos reset else if ready then lowered p else p

-- one more, as far as 16 bits go
abbrev pub counted_on : ℕ → ℕ
counted_on c = if leb 65535 c then c else suc c

-- the rules' `counted`, with that
abbrev pub held_count : Bool → Bool → ℕ → ℕ
held_count picked ready c = if picked then 0 else if ready then counted_on c else c

-- station k's priority and its count, where it is not picked
abbrev pub unpicked : List Bool → ℕ → ℤ → ℤ
unpicked ready k p = held_charge false (get_or ready k false) 0 p

abbrev pub passed : List Bool → ℕ → ℕ → ℕ
passed ready k c = held_count false (get_or ready k false) c
