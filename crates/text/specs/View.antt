-- The code's texts, seen as bytes. These are definitions.
use Rattle.std.specs.Prelude.{ℕ, List, take}
use Rattle.text.specs.declared.Text.{Text}

-- bytes that a text has room for
abbrev pub max_line : ℕ
max_line = 118

-- the bytes of a text
abbrev pub text_of : Text → List ℕ
text_of t = take t.len t.bytes
