-- `text::Text::put` meets its contract, whether there is room for the byte or not. Assumes nothing.
use Rattle.text.proofs.Texts.{put_in, put_full}
use Rattle.text.specs.View.{max_line}
use native.Mathlib.Omega.{arith}
use borrow.Author.Rules.{rules}
use Rattle.text.proofs.Text.put.Goals as goal

pub returns-then-at-lt-MAX_LINE : goal.returns-then-at-lt-MAX_LINE
returns-then-at-lt-MAX_LINE c =
    let t = c.args.self in
    put_in t.bytes t.len c.args.byte max_line (search rules) (omega arith)

pub returns-else-at-lt-MAX_LINE : goal.returns-else-at-lt-MAX_LINE
returns-else-at-lt-MAX_LINE c =
    let t = c.args.self in
    put_full t.bytes t.len c.args.byte max_line (search rules) (omega arith)
