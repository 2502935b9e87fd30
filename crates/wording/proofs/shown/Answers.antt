-- `wording::shown` meets its contract. Assumes nothing.
use Rattle.text.specs.View.{max_line, text_of}
use Rattle.text.proofs.Texts.{put_four}
use Rattle.rules.specs.Trace.{decimal}
use Rattle.wording.specs.Wording.{ascii, shown}
use Rattle.wording.proofs.Lengths.{length_shown}
use native.Mathlib.Omega.{arith}
use Rattle.wording.proofs.shown.Goals as goal

pub returns : goal.returns
unfolding shown ascii
returns c =
    let a = c.args in (
      put_four max_line (text_of a.first) (ascii "v") (decimal a.variable) (ascii " is ") (decimal a.value)
          c.put.ensures
          c.decimal.ensures
          c.words.ensures
          c.decimal-2.ensures,
      length_shown a.variable a.value (omega (arith, c.ranges.variable.fits)) (omega (arith, c.ranges.value.fits)),
    )
