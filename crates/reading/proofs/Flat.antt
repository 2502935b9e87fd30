-- The records of an IF, a WHILE or an AWAIT and then others, part by part. Assumes nothing.
use mathlib.Core.Path.{◌≡◌}
use mathlib.Core.List.{List, ◌∷◌, ◌++◌, append_assoc}
use Rattle.rules.specs.Names.{ELSE, FI, OD, END}
use Rattle.rules.specs.Records.{Record}
use Rattle.rules.specs.Trees.{Statements, branch, loop, await}
use Rattle.rules.specs.Build.{bare}
use Rattle.reading.specs.Reading.{flat}

module _ (r : Record) (x rest : Statements) (rs : List Record) where
  pub flat_branch : (y : Statements)
      → flat (branch r x y rest) ++ rs ≡ r ∷ (flat x ++ (bare ELSE 0 ∷ (flat y ++ (bare FI 0 ∷ (flat rest ++ rs)))))
  unfolding flat
  flat_branch y = simp append_assoc

  pub flat_loop : flat (loop r x rest) ++ rs ≡ r ∷ (flat x ++ (bare OD 0 ∷ (flat rest ++ rs)))
  unfolding flat
  flat_loop = simp append_assoc

  pub flat_await : flat (await r x rest) ++ rs ≡ r ∷ (flat x ++ (bare END 0 ∷ (flat rest ++ rs)))
  unfolding flat
  flat_await = simp append_assoc
