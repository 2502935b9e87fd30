-- `soundness::few_low` meets its contract. The loop's invariant: each k passed has few enough. Assumes nothing.
use Prim.Native.Nat.{ℕ, suc, ◌<◌}
use mathlib.Core.Path.{◌≡◌}
use mathlib.Core.Bool.{true}
use Rattle.rules.specs.State.{few_low_in}
use Rattle.soundness.proofs.few_low.Given as goal

abbrev pub invariant-loop-i : goal.invariant-loop-i
invariant-loop-i l = (k : ℕ) → k < l.i → few_low_in l.state.priorities l.n (suc k) ≡ true
