-- `line::spelled` meets its contract: a row is put in entry by entry, and there is room for the whole line. Assumes nothing.
use Rattle.std.proofs.Common.{rules, ◌≡◌, refl, [], ◌∷◌, ◌++◌, ◌<◌, ℕ, length, take, Bor}
use Rattle.std.proofs.lemmas.Fn.{fold_over, slice_gives, fronts}
use mir.Syntax.{w16}
use mir.Val.{Fits, SFits}
use lib.IntN.{ℤ, pos}
use native.Mathlib.Omega.{arith}
use Rattle.rules.specs.Trace.{decimal, signed, priorities_text, counts_text}
use Rattle.state.specs.View.{as_state}
use Rattle.text.specs.declared.Text.{Text}
use Rattle.text.specs.View.{max_line, text_of}
use Rattle.text.proofs.Texts.{put_whole, put_line}
use Rattle.text.proofs.Signed.{within}
use Rattle.text.proofs.Digits.{length_decimal}
use Rattle.line.proofs.Entries.{Put, put_none, put_more, put_row, length_signed}
use Rattle.line.proofs.spelled.Goals as goal

pub returns : goal.returns
returns c =
    let masks = c.decimal-masks.result in
    let s = c.args.state.now in
    let eight : length s.priorities ≡ 8 = search rules in
    let places : length s.counts ≡ 8 = search rules in
    let priorities = fold_over fronts (λ (x : Bor ℤ). x.now) _ (λ xs (t : Text). Put signed max_line 7 (text_of masks) xs (text_of t)) _
    (λ xs a x b f' so_far k.
    let fits : SFits w16 x.now = search rules in
    let then : text_of b ≡ take max_line (take max_line (text_of a ++ (32 ∷ [])) ++ signed x.now) = search rules in
    (put_more signed max_line 7 (text_of masks) xs x.now so_far then (omega (arith, length_signed x.now (within _ fits))), refl))
    c.iter.result c.iter.result.rest.now masks _ (slice_gives c.iter.result)
    (put_none signed max_line 7 (text_of masks) (put_whole masks.bytes masks.len max_line (search rules))) c.fold-priorities.ensures.ran in
    let p = put_row signed max_line 7 (text_of masks) s.priorities (pos 0) s.n priorities c.iter.ensures.rest (omega arith) in
    let first = c.fold-priorities.result in
    let counts = fold_over fronts (λ (x : Bor ℕ). x.now) _ (λ xs (t : Text). Put decimal max_line 6 (text_of first) xs (text_of t)) _
    (λ xs a x b f' so_far k.
    let fits : Fits w16 x.now = search rules in
    let then : text_of b ≡ take max_line (take max_line (text_of a ++ (32 ∷ [])) ++ decimal x.now) = search rules in
    (put_more decimal max_line 6 (text_of first) xs x.now so_far then (omega (arith, length_decimal 4 x.now (omega (arith, fits.fits)))), refl))
    c.iter-2.result c.iter-2.result.rest.now first _ (slice_gives c.iter-2.result)
    (put_none decimal max_line 6 (text_of first) (put_whole first.bytes first.len max_line (search rules))) c.fold-counts.ensures.ran in
    let q = put_row decimal max_line 6 (text_of first) s.counts 0 s.n counts c.iter-2.ensures.rest (omega arith) in
    let few : s.m < 65536 = omega arith in
    let m = length_decimal 4 s.m (omega (arith, few)) in
    let ready = length_decimal 2 c.args.ready (omega (arith, c.ranges.ready.fits)) in
    let turn = length_decimal 2 c.args.in_turn (omega (arith, c.ranges.in_turn.fits)) in
    put_line max_line (decimal s.m) (decimal c.args.ready) (decimal c.args.in_turn) (priorities_text (as_state s) s.n)
    (counts_text (as_state s) s.n)
    (omega (arith, m, ready, turn, p.1, q.1, c.requires))
    c.empty.ensures
    c.decimal.ensures
    c.put.ensures
    c.decimal-2.ensures
    c.put-2.ensures
    c.decimal-masks.ensures
    p.0
    q.0
    c.put-3.ensures
