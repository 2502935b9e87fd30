-- One pick of the parts of a state, with a charge and counts that 16 bits can hold. These are definitions.
use Rattle.std.specs.Prelude.{ℕ, ◌+◌, min, List, eqb, ℤ, if◌then◌else◌}
use Rattle.rules.specs.Words.{changed, refusal}
use Rattle.rules.specs.Names.{max_stations}
use Rattle.rules.specs.Records.{Pick}
use Rattle.rules.specs.State.{State, stepless}
use Rattle.rules.specs.Ready.{ready}
use Rattle.rules.specs.Move.{moved}
use Rattle.rules.specs.Step.{pick_tests, Picked}
use Rattle.charging.specs.Charge.{held_charge, held_count}

-- a state of these parts and of eight stations at most: a pick does not look at m
abbrev pub state_of : List ℕ → List ℕ → List ℤ → List ℕ → ℕ → ℕ → State
state_of vars positions priorities counts n b = stepless vars positions priorities counts (min n max_stations) b

pub record Took : Type 0 where
  pub number : ℕ
  pub vars : List ℕ
  pub positions : List ℕ
  pub priorities : List ℤ
  pub counts : List ℕ

-- the rules' tests and move, and their charge and counts as far as 16 bits go
unfoldable pub took : List ℕ → State → Pick → Took
took list s p =
    let number = refusal (pick_tests list s p) in
    let after = moved list s.vars s.positions p.station in
    if eqb number 0
    then record {
      number = 0;
      vars = after.vars;
      positions = after.positions;
      priorities = changed (λ j. held_charge (eqb j p.station) (ready list s j) p.reset) s.n s.priorities;
      counts = changed (λ j. held_count (eqb j p.station) (ready list s j)) s.n s.counts;
    }
    else record { number = number; vars = s.vars; positions = s.positions; priorities = s.priorities; counts = s.counts }

-- a state with the parts that it leaves: n, b and m stay
abbrev pub with_parts : State → Took → State
with_parts s t =
    record {
      vars = t.vars;
      positions = t.positions;
      priorities = t.priorities;
      counts = t.counts;
      n = s.n;
      b = s.b;
      m = s.m;
    }

-- so of a state, as the code holds it
abbrev pub picked : List ℕ → State → Pick → Picked
picked list s p =
    let t = took list (state_of s.vars s.positions s.priorities s.counts s.n s.b) p in
    record { number = t.number; state = with_parts s t }

-- what a state becomes by it: a step more where it is taken
abbrev pub after : State → Took → Picked
after s t =
    record {
      number = t.number;
      state = record {
        vars = t.vars;
        positions = t.positions;
        priorities = t.priorities;
        counts = t.counts;
        n = s.n;
        b = s.b;
        m = if eqb t.number 0 then s.m + 1 else s.m;
      };
    }
