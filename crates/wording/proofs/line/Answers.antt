-- `wording::line` meets its contract: there is room for the whole line. Assumes nothing.
use Rattle.text.specs.View.{max_line}
use Rattle.text.proofs.Texts.{put_four}
use Rattle.text.proofs.Digits.{length_decimal}
use Rattle.rules.specs.Trace.{decimal}
use Rattle.reason.specs.View.{as_why}
use Rattle.wording.specs.Wording.{ascii, said_of, why_line}
use mathlib.Core.List.{[]}
use mathlib.Core.Path.{◌∙◌}
use native.Mathlib.Omega.{arith}
use lib.ListN.{length-append}
use lib.Seq.{take_all}
use Rattle.wording.proofs.line.Goals as goal

pub returns : goal.returns
unfolding why_line ascii
returns c =
    let a = c.args in
    let word = rw c.empty.ensures at c.words.ensures in
    let station = length_decimal 2 a.station (omega (arith, c.ranges.station.fits)) in
    let said = c.said.ensures in
    put_four max_line [] (ascii "station ") (decimal a.station) (said_of (as_why a.why)) (ascii "\n")
    word
    c.decimal-named.ensures
    said.0
    c.put.ensures
    ∙ take_all max_line _ (simp length-append (omega (arith, station, said.1)))
