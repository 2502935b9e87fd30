-- Kinds begin a well-shaped sequence exactly where SHAPE's walk over them is not wrong: what is open can be closed, and after a fault
-- nothing helps. Assumes nothing.
use mathlib.Core.Path.{◌≡◌, refl, sym, ap, ◌∙◌}
use mathlib.Core.Bool.{true, false, true≢false, false≢true}
use mathlib.Core.List.{List, [], ◌∷◌, ◌++◌}
use Prim.Native.Nat.{ℕ}
use lib.Dec.{eqb}
use Rattle.rules.specs.Names.{STATION, SKIP, SET, ELSE, FI, OD, END}
use Rattle.rules.specs.Shape.{Part, opened, grown, Stand, initial, within, wrong, stride, is_wrong, finished, walked, well_shaped}
use Rattle.laws.proofs.Choice.{by_test}
use Rattle.reading.proofs.Strides.{closes_inner, closing, Nested, nested_closes, InPart, inside_stride}
use Rattle.laws.proofs.Shapes.{wrong_stays}
use Rattle.grammar.specs.Grammar.{Continues}
use Rattle.grammar.proofs.Made.{made}
use Rattle.grammar.proofs.Taken.{is_sequence}

walked_append : (s : Stand) (xs ys : List ℕ) → walked s (xs ++ ys) ≡ walked (walked s xs) ys
unfolding walked
walked_append s [] ys = refl
walked_append s (x ∷ xs) ys = walked_append (stride s x) xs ys

-- what is right at the end was right before
pub right_from : (s : Stand) (ks : List ℕ) → is_wrong (walked s ks) ≡ false → is_wrong s ≡ false
right_from initial ks e = refl
right_from (within p ps) ks e = refl
right_from wrong ks e = rw wrong_stays at e

pub right_before : (xs ys : List ℕ) → is_wrong (walked initial (xs ++ ys)) ≡ false → is_wrong (walked initial xs) ≡ false
right_before xs ys e = right_from (walked initial xs) ys (ap is_wrong (sym (walked_append initial xs ys)) ∙ e)

finished_right : (s : Stand) → finished s ≡ true → is_wrong s ≡ false
finished_right initial e = refl
finished_right (within p ps) e = refl
finished_right wrong e = absurd (false≢true e)

-- a stand that the walk comes to
abbrev pub Attained : Stand → Type 0
Attained initial = Unit {0}
Attained (within p ps) = InPart (within p ps)
Attained wrong = Unit {0}

inside_reached : (s : Stand) → InPart s → Attained s
inside_reached initial n = tt
inside_reached (within p ps) n = n
inside_reached wrong n = n

pub reached_stride : (s : Stand) (k : ℕ) → Attained s → Attained (stride s k)
unfolding stride
reached_stride initial k n =
    by_test (eqb k SET) (λ e. rw e tt) (λ f. by_test (eqb k STATION) (λ e. rw (f, e) refl) (λ e. rw (f, e) tt))
reached_stride (within p ps) k n = inside_reached (stride (within p ps) k) (inside_stride (within p ps) k n)
reached_stride wrong k n = n

reached : (s : Stand) (ks : List ℕ) → Attained s → Attained (walked s ks)
unfolding walked
reached s [] n = n
reached s (k ∷ ks) n = reached (stride s k) ks (reached_stride s k n)

-- some kinds from here on finish the sequence
abbrev Finishes : Stand → Type 0
Finishes s = (rest : List ℕ) × (finished (walked s rest) ≡ true)

-- after one SKIP more a part may close
closed_next : (p q : Part) (qs : List Part) → Nested p.closed_by (q ∷ qs) → Finishes (within q qs) → Finishes (within p (q ∷ qs))
unfolding walked stride
closed_next p q qs n (rest, done) =
    closing (λ k. p.closed_by ≡ k → closes_inner k ≡ true → Finishes (within p (q ∷ qs)))
    (λ e i. absurd (false≢true i))
    (λ e i. after ELSE (SKIP ∷ FI ∷ rest) (within (opened FI p.in_body) (q ∷ qs)) (rw e) done)
    (λ e i. after FI rest (within q qs) (rw e) done)
    (λ e i. after OD rest (within q qs) (rw e) done)
    (λ e i. after END rest (within q qs) (rw e) done)
    p.closed_by (nested_closes p.closed_by (q ∷ qs) n) refl n.0
  where
    after : (k : ℕ) (ks : List ℕ) (s : Stand) → stride (within (grown p) (q ∷ qs)) k ≡ s → finished (walked s ks) ≡ true
        → Finishes (within p (q ∷ qs))
    after k ks s e f = (SKIP ∷ k ∷ ks, ap (λ (s : Stand). finished (walked s ks)) e ∙ f)

finishes : (p : Part) (ps : List Part) → Nested p.closed_by ps → Finishes (within p ps)
unfolding walked stride
finishes p [] n = (SKIP ∷ [], refl)
finishes p (q ∷ qs) n = closed_next p q qs n (finishes q qs n.1)

right_finishes : (s : Stand) → Attained s → is_wrong s ≡ false → Finishes s
unfolding walked stride
right_finishes initial n e = (STATION ∷ SKIP ∷ [], refl)
right_finishes (within p ps) n e = finishes p ps n
right_finishes wrong n e = absurd (true≢false e)

pub right_begins : (ks : List ℕ) → is_wrong (walked initial ks) ≡ false → Continues ks
unfolding well_shaped
right_begins ks e =
    let f = right_finishes (walked initial ks) (reached initial ks tt) e in
    (f.0, is_sequence (ks ++ f.0) (ap finished (walked_append initial ks f.0) ∙ f.1))

pub begins_right : (ks : List ℕ) → Continues ks → is_wrong (walked initial ks) ≡ false
unfolding well_shaped
begins_right ks b = right_before ks b.0 (finished_right (walked initial (ks ++ b.0)) (made b.1))
