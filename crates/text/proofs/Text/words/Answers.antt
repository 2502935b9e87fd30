-- `text::Text::words` meets its contract. Assumes nothing.
use Rattle.text.proofs.Texts.{put_whole, put_after}
use Rattle.text.specs.View.{max_line, text_of}
use mathlib.Core.List.{[], ◌∷◌, append-nil}
use mathlib.Core.Path.{sym, ap, ◌∙◌}
use native.Mathlib.Numerals.{add-one}
use lib.ListN.{take, get_or}
use lib.Seq.{take-suc}
use borrow.Author.Rules.{rules}
use Rattle.text.proofs.Text.words.Goals as goal

pub loop-byte-init : goal.loop-byte-init
loop-byte-init c =
    let t = c.args.self in
    sym (ap (take max_line) (append-nil (text_of t)) ∙ put_whole t.bytes t.len max_line (search rules))

pub loop-byte-preserved : goal.loop-byte-preserved
loop-byte-preserved c =
    let bytes = c.args.bytes.now in
    let i = c.loop-byte.byte-index in
    rw (add-one, take-suc bytes i 0 c.loop-byte-test.true)
    (put_after max_line (text_of c.args.self) (take i bytes) (get_or bytes i 0 ∷ []) c.loop-byte.invariant c.put-text.ensures)
