-- An AWAIT of a sound list leads to an inside record of its station. Assumes nothing.
use mathlib.Core.Path.{◌≡◌}
use mathlib.Core.Bool.{true, and-false}
use mathlib.Core.List.{List}
use Prim.Native.Nat.{ℕ}
use borrow.Author.Tests.{eqb-true}
use lib.Dec.{eqb}
use Rattle.rules.specs.Names.{AWAIT}
use Rattle.rules.specs.Records.{list_record_at}
use Rattle.rules.specs.List.{outside, inside, outside_targets, sound_list}
use Rattle.laws.proofs.Choice.{surely}
use Rattle.laws.proofs.Sound.{at_means, outside_right}

pub await_leads_in : (list : List ℕ) → sound_list list ≡ true → (station p : ℕ)
    → outside list station p ≡ true → eqb (list_record_at list p).own.kind AWAIT ≡ true
    → inside list station (list_record_at list p).t1 ≡ true
unfolding outside_targets
await_leads_in list sound station p here await =
    let e = list_record_at list p in
    let kind = eqb-true e.own.kind AWAIT await in
    let targets = outside_right list sound station p here in
    surely (inside list station e.t1) (λ d. simp ((at_means list 0 station p here).of_station, kind, d, and-false) at targets)
