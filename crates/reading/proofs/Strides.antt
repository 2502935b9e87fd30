-- One stride of SHAPE's walk from an open part, by what the record's kind does there: it is a statement, opens one, closes the part, or
-- is wrong. The parts that are open lie nested in a station. Assumes nothing.
use mathlib.Core.Path.{◌≡◌, refl, sym, ◌∙◌}
use mathlib.Core.Bool.{Bool, true, false, ◌&&◌, ◌||◌, false≢true}
use mathlib.Core.List.{List, [], ◌∷◌}
use Prim.Native.Nat.{ℕ}
use lib.Dec.{eqb}
use borrow.Author.Tests.{eqb-true}
use Rattle.rules.specs.Words.{among}
use Rattle.rules.specs.Names.{STATION, SKIP, SET, IF, ELSE, FI, WHILE, OD, AWAIT, END}
use Rattle.rules.specs.Shape.{Part, opened, grown, Stand, initial, within, wrong, close, stride}
use Rattle.laws.proofs.Choice.{by_test, both_left, both_right}

-- the kind closes a part: that of an IF, a WHILE or an AWAIT, or a station
abbrev pub closes_inner : ℕ → Bool
closes_inner k = among k (ELSE ∷ FI ∷ OD ∷ END ∷ [])

abbrev pub closes : ℕ → Bool
closes k = eqb k STATION || closes_inner k

pub data Stride (p : Part) (ps : List Part) (k : ℕ) : Type 0 where
  by_skip : k ≡ SKIP → stride (within p ps) k ≡ within (grown p) ps → Stride p ps k
  by_set : k ≡ SET → stride (within p ps) k ≡ within (grown p) ps → Stride p ps k
  by_if : k ≡ IF → stride (within p ps) k ≡ within (opened ELSE p.in_body) (grown p ∷ ps) → Stride p ps k
  by_while : k ≡ WHILE → p.in_body ≡ false → stride (within p ps) k ≡ within (opened OD false) (grown p ∷ ps) → Stride p ps k
  by_await : k ≡ AWAIT → p.in_body ≡ false → stride (within p ps) k ≡ within (opened END true) (grown p ∷ ps) → Stride p ps k
  by_close : k ≡ p.closed_by → p.begun ≡ true → stride (within p ps) k ≡ close k p.in_body ps → Stride p ps k
  by_fault : stride (within p ps) k ≡ wrong → Stride p ps k

-- a part that is open is closed by a closing kind
abbrev pub Closed : Part → Type 0
Closed p = closes p.closed_by ≡ true

-- one of the kinds that begin a statement closes nothing
opening_stays : (p : Part) (k : ℕ) → Closed p → closes k ≡ false → eqb k p.closed_by ≡ false
opening_stays p k c n = by_test (eqb k p.closed_by) (λ e. absurd (false≢true (sym n ∙ rw (eqb-true k _ e) c))) (λ e. e)

pub strides : (p : Part) (ps : List Part) (k : ℕ) → Closed p → Stride p ps k
unfolding stride
strides p ps k c =
    by_test (eqb k SKIP) (λ e. by_skip (eqb-true _ _ e) (rw e)) (λ f.
    by_test (eqb k SET) (λ e. by_set (eqb-true _ _ e) (rw (f, e))) (λ g.
    by_test (eqb k IF) (λ e. by_if (eqb-true _ _ e) (rw (f, g, e))) (λ h.
    by_test (eqb k WHILE)
    (λ e. by_test p.in_body
    (λ b. by_fault (rw (eqb-true k WHILE e, b, opening_stays p WHILE c refl)))
    (λ b. by_while (eqb-true _ _ e) b (rw (f, g, h, e, b)))) (λ i.
    by_test (eqb k AWAIT)
    (λ e. by_test p.in_body
    (λ b. by_fault (rw (eqb-true k AWAIT e, b, opening_stays p AWAIT c refl)))
    (λ b. by_await (eqb-true _ _ e) b (rw (f, g, h, i, e, b)))) (λ j.
    by_test (eqb k p.closed_by && p.begun)
    (λ e. by_close (eqb-true _ _ (both_left _ _ e)) (both_right (eqb k p.closed_by) _ e) (rw (f, g, h, i, j, e)))
    (λ e. by_fault (rw (f, g, h, i, j, e))))))))

-- what holds of the five kinds that close a part holds of each kind that does
pub closing : (X : ℕ → Type 0) → X STATION → X ELSE → X FI → X OD → X END → (k : ℕ) → closes k ≡ true → X k
closing X u v w x y k c =
    by_test (eqb k STATION) (λ e. rw (eqb-true k _ e) u) (λ f.
    by_test (eqb k ELSE) (λ e. rw (eqb-true k _ e) v) (λ g.
    by_test (eqb k FI) (λ e. rw (eqb-true k _ e) w) (λ h.
    by_test (eqb k OD) (λ e. rw (eqb-true k _ e) x) (λ i.
    by_test (eqb k END) (λ e. rw (eqb-true k _ e) y) (λ j. absurd (false≢true (rw (f, g, h, i, j) at c)))))))

-- within a part that this kind closes stand parts around it: the outermost is a station's, and it alone
abbrev pub Nested : ℕ → List Part → Type 0
Nested k [] = k ≡ STATION
Nested k (part ∷ parts) = (closes_inner k ≡ true) × Nested part.closed_by parts

pub nested_closes : (k : ℕ) (ps : List Part) → Nested k ps → closes k ≡ true
nested_closes k [] e = rw e refl
nested_closes k (p ∷ ps) n = by_test (eqb k STATION) (λ e. rw e) (λ e. rw e n.0)

-- the walk is past the initial part
abbrev pub InPart : Stand → Type 0
InPart initial = ⊥
InPart (within p ps) = Nested p.closed_by ps
InPart wrong = Unit {0}

inside_close : (k : ℕ) (b : Bool) (ps : List Part) → Nested k ps → InPart (close k b ps)
inside_close k b [] e = rw e refl
inside_close k b (p ∷ ps) n =
    closing (λ k. closes_inner k ≡ true → InPart (close k b (p ∷ ps)))
    (λ e. absurd (false≢true e)) (λ e. (refl, n.1)) (λ e. n.1) (λ e. n.1) (λ e. n.1) k (nested_closes k (p ∷ ps) n) n.0

pub inside_stride : (s : Stand) (k : ℕ) → InPart s → InPart (stride s k)
unfolding stride
inside_stride initial k n = absurd n
inside_stride (within p ps) k n = go (strides p ps k (nested_closes _ ps n))
  where
    go : Stride p ps k → InPart (stride (within p ps) k)
    go (by_skip e t) = rw t n
    go (by_set e t) = rw t n
    go (by_if e t) = rw t (refl, n)
    go (by_while e b t) = rw t (refl, n)
    go (by_await e b t) = rw t (refl, n)
    go (by_close e b t) = rw (t, e) (inside_close p.closed_by p.in_body ps n)
    go (by_fault t) = rw t tt
inside_stride wrong k n = n
