-- What START, STEP, RUN and UNDO are lent to keep a run in: the log, and document 02's "lent buffer beside the log". This is a definition.
use Rattle.std.specs.Prelude.{ℕ, List}

pub record Lent : Type 0 where
  -- the log's bytes
  pub log : List ℕ
  -- the kept states' bytes
  pub kept : List ℕ
