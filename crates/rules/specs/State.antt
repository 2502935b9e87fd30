-- A run state, and when it is sound against a list. These are definitions.
use Rattle.std.specs.Prelude.{ℕ, suc, ◌+◌, ◌-◌, Bool, ◌&&◌, List, eqb, leb, get_or, replicate, ℤ, pos, neg_ℤ, ◌+ℤ◌}
use Rattle.std.specs.Int.Signed.{le_z}
use Rattle.rules.specs.Words.{each, tally}
use Rattle.rules.specs.Names.{variables, max_stations, max_steps}
use Rattle.rules.specs.List.{stations, outside}

-- "A run state holds 32 variables, 8 positions, 8 priorities, n, B (0 to 255) and the number of standing steps m"; document 02, T-05: "The run
-- state gains eight counts"
pub record State : Type 0 where
  pub vars : List ℕ
  pub positions : List ℕ
  pub priorities : List ℤ
  pub counts : List ℕ
  pub n : ℕ
  pub b : ℕ
  pub m : ℕ

-- A state is made with no steps, by one step more, and (in Kept) of what a kept place holds
abbrev pub stepless : List ℕ → List ℕ → List ℤ → List ℕ → ℕ → ℕ → State
stepless vars positions priorities counts n b =
    record {
      vars = vars;
      positions = positions;
      priorities = priorities;
      counts = counts;
      n = n;
      b = b;
      m = 0;
    }

abbrev pub one_step_on : State → List ℕ → List ℕ → List ℤ → List ℕ → State
one_step_on s vars positions priorities counts =
    record {
      vars = vars;
      positions = positions;
      priorities = priorities;
      counts = counts;
      n = s.n;
      b = s.b;
      m = s.m + 1;
    }

-- no station was passed over yet
abbrev pub no_counts : List ℕ
no_counts = replicate max_stations 0

-- all zeros, which a refused START answers
abbrev pub zeros : State
zeros = stepless (replicate variables 0) (replicate max_stations 0) (replicate max_stations (pos 0)) no_counts 0 0

-- a station's position, priority and count, of all of them
abbrev pub position_in : List ℕ → ℕ → ℕ
position_in positions j = get_or positions j 0

abbrev pub priority_in : List ℤ → ℕ → ℤ
priority_in priorities j = get_or priorities j (pos 0)

abbrev pub count_in : List ℕ → ℕ → ℕ
count_in counts j = get_or counts j 0

abbrev pub position : State → ℕ → ℕ
position s = position_in s.positions

abbrev pub priority : State → ℕ → ℤ
priority s = priority_in s.priorities

abbrev pub count : State → ℕ → ℕ
count s = count_in s.counts

-- document 02, T-05: "each station's priority plus its count is at most B", which contains that each priority is
abbrev pub in_bound : ℕ → ℤ → ℕ → Bool
in_bound b z c = le_z (z +ℤ pos c) (pos b)

-- "for each k from 1 to n at most n-k of them are -k or lower"
abbrev pub few_low_in : List ℤ → ℕ → ℕ → Bool
few_low_in priorities n k = leb (tally (λ j. le_z (priority_in priorities j) (neg_ℤ (pos k))) n + k) n

unfoldable pub few_low : State → ℕ → Bool
few_low s = few_low_in s.priorities s.n

-- "entries from n on are 0", and "counts from n on are zero"
abbrev pub empty_in : List ℕ → List ℤ → List ℕ → ℕ → Bool
empty_in positions priorities counts j =
    eqb (position_in positions j) 0 && le_z (priority_in priorities j) (pos 0) && le_z (pos 0) (priority_in priorities j)
    && eqb (count_in counts j) 0

unfoldable pub empty_at : State → ℕ → Bool
empty_at s = empty_in s.positions s.priorities s.counts

-- "It is sound when n is the list's, m is at most 4,096, each of the first n positions is an outside record of its station, each priority
-- [plus its count] is at most B", and the two above
unfoldable pub sound_state : List ℕ → State → Bool
sound_state list s =
    eqb s.n (stations list) && leb s.m max_steps
    && each (λ j. outside list j (position s j)) s.n
    && each (λ j. in_bound s.b (priority s j) (count s j)) s.n
    && each (λ i. few_low s (suc i)) s.n
    && each (λ i. empty_at s (s.n + i)) (max_stations - s.n)
