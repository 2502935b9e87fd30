-- H, which stands in a line for bytes that are too many. These are definitions.
use Rattle.std.specs.Prelude.{ℕ, ◌+◌, ◌*◌, ◌%◌, ◌^◌}
use mathlib.Core.List.{List, foldl}

-- H after one byte
abbrev pub after_byte : ℕ → ℕ → ℕ
after_byte h b = (h * 31 + b + 1) % 2 ^ 32

-- H after some bytes, the first of them first
abbrev pub after : ℕ → List ℕ → ℕ
after h bytes = foldl after_byte h bytes
