-- `text::Text::decimal` meets its contract: what is printed of a number is its digits. Assumes nothing.
use Rattle.std.proofs.Common.{arith}
use Rattle.text.proofs.Digits.{printed}
use Rattle.text.proofs.Text.decimal.Goals as goal

pub returns : goal.returns
returns c = rw (c.as_bytes.ensures.value, c.format.ensures.text, printed c.args.x (omega arith)) at c.words.ensures
