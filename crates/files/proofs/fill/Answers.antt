-- `files::fill` meets its contract: what a read gives stands behind what came before it. Assumes nothing.
use Rattle.std.proofs.Common.{◌≡◌, ℕ, ◌+◌, ◌-◌, ◌≤◌, List, ◌++◌, rules, length, take, drop, sym, ap, ◌∙◌, subst, le_refl, drop_at, length-take-le}
use Rattle.std.proofs.lemmas.Slice.{take-put_mid_below}
use Rattle.std.specs.Io.KnownBytes.{Consumes}
use Rattle.std.proofs.KnownBytes.{Consumes-trans}
use borrow.Rule.Slice.PartMut.{put_mid, post_of}
use lib.Seq.{take-add, take-append-le}
use Rattle.files.proofs.fill.Goals as goal

-- the front of a list, and n elements more
joined : (a n : ℕ) (old new : List ℕ) → take a new ≡ take a old → take a old ++ take n (drop a new) ≡ take (a + n) new
joined a n old new front = ap (λ l. l ++ take n (drop a new)) (sym front) ∙ sym (take-add a n new)

-- n elements of a part that was put into a list, behind its front
put : (a k n : ℕ) (xs ys : List ℕ) → a ≤ length xs → n ≤ length ys → take n (drop a (put_mid a k xs ys)) ≡ take n ys
put a k n xs ys within fits =
    ap (take n) (drop_at (take a xs) (ys ++ post_of a k xs) a (length-take-le a xs within)) ∙ take-append-le n ys (post_of a k xs) fits

pub loop-done-preserved : goal.loop-done-preserved
loop-done-preserved g c =
    let at = c.loop-done.done in
    let room = length c.loop-done.buffer - at in
    let within = c.loop-done.invariant.0 in
    let part = put at room c.in-Ok.count c.loop-done.buffer c.read.new.buf within c.in-Ok.ensures.bound.0 in
    let all = joined at c.in-Ok.count c.loop-done.buffer (put_mid at room c.loop-done.buffer c.read.new.buf) (take-put_mid_below _ _ _ _ _ (le_refl _) within) in (
      search rules,
      search rules,
      subst (Consumes _ _) (ap (λ l. take at c.loop-done.buffer ++ l) (sym part) ∙ all) (Consumes-trans _ _ _ _ _ c.loop-done.invariant.2 c.in-Ok.ensures.bytes.0),
    )
