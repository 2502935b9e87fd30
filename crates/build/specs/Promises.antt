-- What `build` promises. Its contract cites this, and proofs/Only.antt shows that no second answer meets it. This is a definition.
use Rattle.std.specs.Prelude.{ℕ, ◌≡◌, List}
use Rattle.rules.specs.Build as rules
use Rattle.build.specs.View.{as_built}
use Rattle.build.specs.declared.Built.{Built}

-- what building promises of its answer and of the lent buffer afterwards
abbrev pub BuildPromise : List ℕ → List ℕ → Built → List ℕ → Type 0
BuildPromise file buffer r after = as_built r after ≡ rules.build file buffer
