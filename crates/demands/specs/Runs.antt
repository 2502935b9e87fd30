-- RUN, of any seven calls: which single steps it makes, where it stops and with which number, whatever its most-steps number. These are
-- definitions, and `RunStops` is a claim, which proofs/Runs.antt shows of the rules' calls.
use Rattle.std.specs.Prelude.{◌≡◌, ◌≢◌, List, ℕ, suc, ◌/◌, ◌≤◌, ◌<◌, min, length}
use Rattle.rules.specs.Records.{pick_at}
use Rattle.rules.specs.State.{State}
use Rattle.rules.specs.Lent.{Lent}
use Rattle.rules.specs.Run.{Ran}
use Rattle.rules.specs.Calls.{Seven}
use Rattle.demands.specs.Order.{before_steps}

-- so many single steps of the picks, in order, each taken from the state and with the buffers that the one before it left
pub data Singles (bench : Seven) (list picks : List ℕ) (s : State) (lent : Lent) : ℕ → State → Lent → Type 0 where
  none : Singles bench list picks s lent 0 s lent
  one_more : {k : ℕ} {t : State} {left : Lent} → Singles bench list picks s lent k t left
      → (bench.step list t left (pick_at picks k)).number ≡ 0
      → Singles bench list picks s lent (suc k) (bench.step list t left (pick_at picks k)).state (bench.step list t left (pick_at picks k)).lent

-- "It stops at the first refusal, the end of the picks or that number, and answers the state, the steps taken and the refusal or 0": an
-- answer to so many picks
pub record Stops (bench : Seven) (list picks : List ℕ) (s : State) (lent : Lent) (count : ℕ) (a : Ran) : Type 0 where
  pub singles : Singles bench list picks s lent a.steps a.state a.lent
  pub within : a.steps ≤ count
  pub to_the_end : a.number ≡ 0 → a.steps ≡ count
  -- the refusal is that of the next pick's single step
  pub refused : a.number ≢ 0
      → (a.steps < count) × ((bench.step list a.state a.lent (pick_at picks a.steps)).number ≡ a.number)

-- refused before any step, it leaves all as it was; else it stops where its most-steps number, its picks or a refusal says
pub record RunIs (bench : Seven) (list : List ℕ) (s : State) (lent : Lent) (picks : List ℕ) (most : ℕ) : Type 0 where
  pub refused_first : before_steps list s picks ≢ 0
      → bench.run list s lent picks most ≡ record { number = before_steps list s picks; state = s; steps = 0; lent = lent }
  pub stops : before_steps list s picks ≡ 0 → Stops bench list picks s lent (min most (length picks / 2)) (bench.run list s lent picks most)

abbrev pub RunStops : Seven → Type 0
RunStops bench = (list : List ℕ) (s : State) (lent : Lent) (picks : List ℕ) (most : ℕ) → RunIs bench list s lent picks most
