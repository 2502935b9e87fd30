-- `outset::first_steps` meets its contract. The loop's invariant: the places passed are filled. Assumes nothing.
use mathlib.Core.Path.{◌≡◌}
use Rattle.rules.specs.Names.{max_stations}
use Rattle.rules.specs.Records.{list_record_at}
use Rattle.laws.proofs.Filled.{filled}
use Rattle.outset.proofs.first_steps.Given as goal

abbrev pub invariant-loop-j : goal.invariant-loop-j
invariant-loop-j l = (l.positions ≡ filled (λ k. (list_record_at l.list k).t1) 0 max_stations l.j)
