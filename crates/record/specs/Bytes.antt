-- Bytes of a buffer. This is a definition.
use Rattle.std.specs.Prelude.{ℕ, ◌+◌, List, get_or}
use Rattle.rules.specs.Words.{values}

-- so many bytes from an offset, zeros past the end
abbrev pub bytes_from : ℕ → List ℕ → ℕ → List ℕ
bytes_from count bytes at = values (λ i. get_or bytes (at + i) 0) count
