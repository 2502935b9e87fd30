-- Calls that answer as the rules' do: everywhere, or so far as STEP and RUN are given run states. These are definitions and claims: proofs/Whole.antt
-- and proofs/Only.antt show the claims.
use Rattle.std.specs.Prelude.{◌≡◌, List, ℕ}
use Rattle.rules.specs.Records.{Pick}
use Rattle.rules.specs.State.{State}
use Rattle.rules.specs.Lent.{Lent}
use Rattle.rules.specs.Calls.{Seven, ruled}
use Rattle.fair.specs.Sound.{Held}
use Rattle.demands.specs.Demands.{Demand1, Demand2, Demands}

-- STEP and RUN, of the states of which something is so
pub record Equal (Of : State → Type 0) (bench : Seven) : Type 0 where
  pub check : (file : List ℕ) → bench.check file ≡ ruled.check file
  pub build : (file buffer : List ℕ) → bench.build file buffer ≡ ruled.build file buffer
  pub start : (list : List ℕ) (b : ℕ) (resets : List ℕ) (lent : Lent) → bench.start list b resets lent ≡ ruled.start list b resets lent
  pub step : (list : List ℕ) (s : State) (lent : Lent) (p : Pick) → Of s → bench.step list s lent p ≡ ruled.step list s lent p
  pub run : (list : List ℕ) (s : State) (lent : Lent) (picks : List ℕ) (most : ℕ) → Of s
      → bench.run list s lent picks most ≡ ruled.run list s lent picks most
  pub undo : (list : List ℕ) (s : State) (lent : Lent) → bench.undo list s lent ≡ ruled.undo list s lent
  pub lights : (list : List ℕ) (s : State) → bench.lights list s ≡ ruled.lights list s

-- what holds of the rules' calls holds of any that equal them
abbrev pub Carried : Type 0
Carried = (bench : Seven) → Equal (λ s. Unit {0}) bench → Demands bench

-- and the first two demands leave no other: calls that meet them answer as the rules do, whatever they are given, in every state of 32
-- variables, 8 positions, 8 priorities and 8 counts
abbrev pub NoOther : Type 0
NoOther = (bench : Seven) → Demand1 bench → Demand2 bench → Equal Held bench
