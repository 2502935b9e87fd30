-- FAIR's two bounds, after any history on which a start stands: how many priorities are low, and how often a station is passed over, which its
-- count says. Both in the list's n, and the second in the B that START was given. These are claims, and proofs/Passed.antt shows them.
use Rattle.std.specs.Prelude.{◌≡◌, List, ℕ, ◌+◌, ◌≤◌, ◌<◌, pos, neg_ℤ}
use Rattle.std.proofs.Math.Option.{some}
use Rattle.std.specs.Int.Signed.{le_z}
use Rattle.rules.specs.Words.{tally}
use Rattle.rules.specs.Records.{Pick}
use Rattle.rules.specs.List.{stations}
use Rattle.rules.specs.State.{State, priority, count}
use Rattle.rules.specs.Lent.{Lent}
use Rattle.rules.specs.Calls.{Seven}
use Rattle.rules.specs.History.{Call, Steps, taken, top, start_b, Now, history}
use Rattle.rules.specs.Passed.{passed_over, since_pick, Unpicked}

-- the stack, and what is left of it when steps are taken off its top
pub data Lower (part : Steps) : Steps → Type 0 where
  whole : Lower part part
  under : {steps : Steps} {p : Pick} {s : State} → Lower part steps → Lower part (taken steps p s)

-- "for each k from 1 to n at most n-k stations have priority -k or lower"
abbrev pub FewLow : List ℕ → State → Type 0
FewLow list s =
    (k : ℕ) → 1 ≤ k → k ≤ stations list → tally (λ j. le_z (priority s j) (neg_ℤ (pos k))) (stations list) + k ≤ stations list

-- document 02, T-05: each station's count "equals the count worked out from the standing steps", from its last pick on or from the start
abbrev pub CountsPassed : List ℕ → State → Steps → Type 0
CountsPassed list s steps = (j : ℕ) → j < stations list → count s j ≡ passed_over list j steps (since_pick j steps)

-- and "none exceeds B+n-1"
abbrev pub FewCounted : List ℕ → ℕ → State → Type 0
FewCounted list b s = (j : ℕ) → j < stations list → count s j + 1 ≤ b + stations list

pub record Bounded (list : List ℕ) (now : Now) (steps : Steps) : Type 0 where
  -- in the last state answered, and in each that stands
  pub few_low : FewLow list now.state
  pub few_low_standing : (part : Steps) → Lower part steps → FewLow list (top part)
  pub counts : CountsPassed list now.state steps
  pub counts_standing : (part : Steps) → Lower part steps → CountsPassed list (top part) part
  pub few_counted : FewCounted list (start_b steps) now.state
  pub few_counted_standing : (part : Steps) → Lower part steps → FewCounted list (start_b steps) (top part)
  -- at most B+n-1 times in any stretch of the steps that stand in which the station is not picked: so from the start, or from one of its
  -- picks, to its next pick or to now
  pub few_passed : (part : Steps) → Lower part steps → (j : ℕ) → j < stations list → (k : ℕ) → Unpicked j part k
      → passed_over list j part k + 1 ≤ start_b steps + stations list

abbrev pub PassedOver : Seven → Type 0
PassedOver bench =
    (list : List ℕ) (s : State) (lent : Lent) (calls : List Call) (steps : Steps)
    → (history bench list s lent calls).standing ≡ some steps → Bounded list (history bench list s lent calls) steps
