-- `text::Text::words` meets its contract. The loop's invariant: the bytes passed are in the text. Assumes nothing.
use Rattle.text.specs.View.{max_line, text_of}
use mathlib.Core.List.{◌++◌}
use mathlib.Core.Path.{◌≡◌}
use lib.ListN.{take}
use Rattle.text.proofs.Text.words.Given as goal

abbrev pub invariant-loop-byte : goal.invariant-loop-byte
invariant-loop-byte l = text_of l.text ≡ take max_line (text_of l.initial.text ++ take l.byte-index l.bytes)
