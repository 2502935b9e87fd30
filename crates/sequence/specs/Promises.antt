-- What `check` promises. Its contract cites this, and proofs/Only.antt shows that no second answer meets it. This is a definition.
use Rattle.std.specs.Prelude.{ℕ, ◌≡◌, List}
use Rattle.rules.specs.Check as rules
use Rattle.sequence.specs.Answer.{as_answer}
use Rattle.sequence.specs.declared.Checked.{Checked}

-- what checking promises of its answer
abbrev pub CheckPromise : List ℕ → Checked → Type 0
CheckPromise file r = as_answer r ≡ rules.check file
