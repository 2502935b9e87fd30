-- DEPTH's count is the number of IF, WHILE and AWAIT parts that the walk holds open. Assumes nothing.
use mathlib.Core.Path.{◌≡◌, refl, sym, ap, ◌∙◌}
use mathlib.Core.Bool.{true, false, ◌&&◌, true≢false}
use mathlib.Core.List.{List, [], ◌∷◌}
use Prim.Native.Nat.{ℕ, suc, ◌-◌}
use native.Mathlib.Omega.{arith}
use lib.Dec.{eqb, leb}
use borrow.Author.Tests.{eqb-true}
use lib.ListN.{length, get_or, take}
use Rattle.rules.specs.Words.{first}
use Rattle.rules.specs.Names.{STATION, SET, max_depth}
use Rattle.rules.specs.Shape.{Part, Stand, initial, within, wrong, leave, close, stride, is_wrong, walked, opens, depth_after, too_deep_at}
use Rattle.laws.proofs.Choice.{by_test}
use Rattle.reading.proofs.Strides.{Stride, by_skip, by_set, by_if, by_while, by_await, by_close, by_fault, strides}
use Rattle.reading.proofs.Strides.{closes, closing, nested_closes}
use Rattle.grammar.specs.Meaning.{nesting, nesting_at}
use Rattle.grammar.proofs.Continued.{right_from, Attained, reached_stride}

nesting_left : (ps : List Part) → suc (nesting ps) - 1 ≡ nesting_at (leave ps)
unfolding nesting
nesting_left [] = refl
nesting_left (p ∷ ps) = omega arith

-- one record more
depth_stride : (s : Stand) (k : ℕ) → Attained s → is_wrong (stride s k) ≡ false → depth_after (nesting_at s) k ≡ nesting_at (stride s k)
unfolding stride nesting
depth_stride initial k n r =
    by_test (eqb k SET) (λ e. rw (eqb-true k SET e)) (λ f.
    by_test (eqb k STATION) (λ e. rw (eqb-true k STATION e)) (λ e. absurd (true≢false (rw (f, e) at r))))
depth_stride (within p ps) k n r = go (strides p ps k closed)
  where
    closed : closes p.closed_by ≡ true
    closed = nested_closes p.closed_by ps n

    go : Stride p ps k → depth_after (nesting (p ∷ ps)) k ≡ nesting_at (stride (within p ps) k)
    go (by_skip e t) = rw (t, e)
    go (by_set e t) = rw (t, e)
    go (by_if e t) = rw (t, e)
    go (by_while e b t) = rw (t, e)
    go (by_await e b t) = rw (t, e)
    go (by_close e b t) =
        rw (t, e)
        (closing (λ k. p.closed_by ≡ k → depth_after (nesting (p ∷ ps)) k ≡ nesting_at (close k p.in_body ps))
        (λ i. rw i) (λ i. rw i) (λ i. rw i (nesting_left ps)) (λ i. rw i (nesting_left ps)) (λ i. rw i (nesting_left ps))
        p.closed_by closed refl)
    go (by_fault t) = absurd (true≢false (ap is_wrong (sym t) ∙ r))
depth_stride wrong k n r = absurd (true≢false r)

pub deep : (s : Stand) (ks : List ℕ) → Attained s → is_wrong (walked s ks) ≡ false
    → too_deep_at (nesting_at s) ks ≡ first (λ i. opens (get_or ks i 0) && leb max_depth (nesting_at (walked s (take i ks)))) (length ks)
unfolding too_deep_at first walked
deep s [] n r = refl
deep s (k ∷ ks) n r =
    let d = depth_stride s k n (right_from (stride s k) ks r) in
    rw (d, deep (stride s k) ks (reached_stride s k n) r)
