-- What the grammar makes, SHAPE's walk takes: a statement brings it back to the part that it stands in. Assumes nothing.
use mathlib.Core.Path.{◌≡◌, refl, sym, ap, ◌∙◌}
use mathlib.Core.Bool.{Bool, true, false}
use mathlib.Core.List.{List, [], ◌∷◌, ◌++◌, append_assoc, append-nil}
use Prim.Native.Nat.{ℕ}
use Rattle.rules.specs.Names.{STATION, IF, ELSE, FI, WHILE, OD, AWAIT, END}
use Rattle.rules.specs.Shape.{Part, opened, grown, Stand, initial, within, stride, walked, finished, well_shaped}
use Rattle.grammar.specs.Grammar as G
use Rattle.grammar.specs.Grammar.{Sort, statement, statements, station, stations, sequence, Shaped, Sequence}

-- a station with a statement at least, and nothing else open
abbrev station_begun : Stand
station_begun = within (grown (opened STATION false)) []

-- these kinds are statements more for the part that the walk stands in, whatever comes then
abbrev Grows : Bool → List ℕ → Type 0
Grows b x =
    (p : Part) (ps : List Part) (ks : List ℕ) → p.in_body ≡ b → walked (within p ps) (x ++ ks) ≡ walked (within (grown p) ps) ks

-- after these kinds the walk stands in a station, as it may have done before
abbrev Stands : List ℕ → Type 0
Stands x =
    (ks : List ℕ) → (walked initial (x ++ ks) ≡ walked station_begun ks) × (walked station_begun (x ++ ks) ≡ walked station_begun ks)

abbrev Takes : Sort → List ℕ → Type 0
Takes (statement b) x = Grows b x
Takes (statements b) x = Grows b x
Takes station x = Stands x
Takes stations x = Stands x
Takes sequence x = (ks : List ℕ) → walked initial (x ++ ks) ≡ walked station_begun ks

-- a statement that is one part: this kind opens it and that one closes it
round : (k c : ℕ) (b : Bool) (x ks : List ℕ) (p : Part) (ps : List Part) → stride (within p ps) k ≡ within (opened c b) (grown p ∷ ps)
    → Grows b x → stride (within (grown (opened c b)) (grown p ∷ ps)) c ≡ within (grown p) ps
    → walked (within p ps) ((k ∷ (x ++ (c ∷ []))) ++ ks) ≡ walked (within (grown p) ps) ks
unfolding walked
round k c b x ks p ps into f out =
    ap (walked (stride (within p ps) k)) (append_assoc x (c ∷ []) ks)
    ∙ ap (λ (s : Stand). walked s (x ++ (c ∷ ks))) into
    ∙ f (opened c b) (grown p ∷ ps) (c ∷ ks) refl
    ∙ ap (λ (s : Stand). walked s ks) out

takes : {s : Sort} {x : List ℕ} → Shaped s x → Takes s x
unfolding walked stride
takes G.skip = λ p ps ks e. refl
takes G.set = λ p ps ks e. refl
takes (G.branch {b = b} {x = x} {y = y} f g) = λ p ps ks e.
    ap (λ (l : List ℕ). walked (within p ps) (IF ∷ l)) (append_assoc x _ ks ∙ ap (λ (l : List ℕ). x ++ (ELSE ∷ l)) (append_assoc y _ ks))
    ∙ takes f (opened ELSE p.in_body) (grown p ∷ ps) (ELSE ∷ (y ++ (FI ∷ ks))) e
    ∙ takes g (opened FI p.in_body) (grown p ∷ ps) (FI ∷ ks) e
takes (G.loop {x = x} f) = λ p ps ks e. round WHILE OD false x ks p ps (rw e) (takes f) refl
takes (G.await {x = x} f) = λ p ps ks e. round AWAIT END true x ks p ps (rw e) (takes f) refl
takes (G.one f) = takes f
takes (G.more {x = x} {y = y} f g) = λ p ps ks e.
    ap (walked (within p ps)) (append_assoc x y ks) ∙ takes f p ps (y ++ ks) e ∙ takes g (grown p) ps ks e
takes (G.begun {x = x} f) = λ ks. (takes f (opened STATION false) [] ks refl, takes f (opened STATION false) [] ks refl)
takes (G.last f) = takes f
takes (G.next {x = x} {y = y} f g) = λ ks. (
  ap (walked initial) (append_assoc x y ks) ∙ (takes f (y ++ ks)).0 ∙ (takes g ks).1,
  ap (walked station_begun) (append_assoc x y ks) ∙ (takes f (y ++ ks)).1 ∙ (takes g ks).1,
)
takes (G.all f) = λ ks. (takes f ks).0
takes (G.initial f) = takes f

-- so what the grammar makes is well shaped
pub made : {ks : List ℕ} → Sequence ks → well_shaped ks ≡ true
unfolding well_shaped walked
made {ks} f = ap finished (ap (walked initial) (sym (append-nil ks)) ∙ takes f [])
