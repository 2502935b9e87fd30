-- `text::end_line` meets its contract: there is room for the whole line. Assumes nothing.
use Rattle.text.proofs.Texts.{put_after}
use Rattle.text.proofs.Digits.{length_decimal}
use Rattle.text.specs.View.{max_line}
use Rattle.rules.specs.Trace.{decimal, end_line}
use native.Mathlib.Omega.{arith}
use mathlib.Core.List.{[], ◌∷◌}
use mathlib.Core.Path.{◌∙◌}
use lib.ListN.{length-append}
use lib.Seq.{take_all}
use Rattle.text.proofs.end_line.Goals as goal

pub returns : goal.returns
unfolding end_line
returns c =
    let number = c.args.number in
    let end = rw c.empty.ensures at c.words.ensures in
    let few = length_decimal 2 number (omega arith) in
    let numbered = rw end at c.decimal.ensures in
    put_after max_line (101 ∷ 110 ∷ 100 ∷ 32 ∷ []) (decimal number) (10 ∷ []) numbered c.put.ensures
    ∙ take_all max_line _ (simp length-append (omega arith))
