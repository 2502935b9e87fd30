-- `text::Text::signed` meets its contract, by whether the priority is below 0. Assumes nothing.
use mathlib.Core.Path.{ap}
use mathlib.Core.List.{[], ◌∷◌}
use native.Mathlib.Omega.{arith}
use lib.IntN.{nat_abs}
use mir.Syntax.{w16}
use mir.ValLaws.{to_z-of_z}
use Rattle.rules.specs.Trace.{decimal, signed}
use Rattle.text.specs.View.{max_line, text_of}
use Rattle.text.proofs.Digits.{printed}
use Rattle.text.proofs.Texts.{put_after}
use Rattle.text.proofs.Signed.{signed_below, not_below}
use Rattle.text.proofs.Text.signed.Goals.{then-p-lt0, else-p-lt0}
use Rattle.text.proofs.Text.signed.Goals as goal

pub returns : goal.returns
returns c =
    let p = c.args.p in
    let same = to_z-of_z w16 p c.ranges.p in
    let small = c.unsigned_abs.ensures.bound in
    let digits = rw (c.as_bytes.ensures.value, c.format.ensures.text, printed c.unsigned_abs.result (omega arith), c.unsigned_abs.ensures.value, same) at c.words.ensures in
    elim c.if-p-lt0.branch [
      | then-p-lt0 w ↦
          let low = rw same at w.if-p-lt0.true in
          rw (signed_below p low) (put_after max_line (text_of c.args.self) (45 ∷ []) (decimal (nat_abs p)) w.put-signed.ensures (rw w.signed-is at digits))
      | else-p-lt0 w ↦
          rw (ap signed (not_below p (rw same at w.if-p-lt0.false))) (rw w.signed-is at digits)
    ]
