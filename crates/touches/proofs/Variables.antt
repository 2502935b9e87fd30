-- What is touched, variable by variable: what a record touches by its b and k, and what many records touch together.
-- Assumes nothing.
use mathlib.Core.Path.{◌≡◌, refl, ap}
use mathlib.Core.Bool.{Bool, true, false, ◌&&◌, ◌||◌, or-false, or_assoc}
use mathlib.Core.List.{List, [], ◌∷◌}
use Prim.Native.Nat.{ℕ}
use lib.Dec.{eqb}
use lib.ListN.{length, get_or, replicate, get_or-replicate}
use Rattle.rules.specs.Words.{among, values}
use Rattle.rules.specs.Names.{SET, IF, WHILE, AWAIT, variables}
use Rattle.rules.specs.Records.{Record, ListRecord, list_record_at}
use Rattle.rules.specs.Lights.{reads, writes, some_of}
use Rattle.laws.proofs.Choice.{by_test}
use Rattle.laws.proofs.Places.{length_values, get_or_values, values_same}
use Rattle.touching.specs.Touching.{reads_b, reads_k, added}
use Rattle.touching.proofs.Variables.{added_none}
use Rattle.touches.specs.declared.Touched.{Touched}
use Rattle.touches.specs.Touched.{body_within, touched, touched_by, with_record, with_places}

-- two tests, one after the other
added_both : (before : List Bool) (f g : ℕ → Bool) → added (added before f) g ≡ added before (λ v. f v || g v)
added_both before f g =
    values_same _ _ variables
    (λ v l. rw (get_or_values (λ i. get_or before i false || f i) variables v false l) (or_assoc (get_or before v false) (f v) (g v)))

-- a record reads what its b and its k name
reads_by : (v : ℕ) (r : Record) → reads v r ≡ (reads_b r && eqb r.b v || reads_k r && eqb r.k v)
unfolding reads
reads_by v r =
    by_test (eqb r.kind SET) (λ e. rw e)
    (λ e. by_test (among r.kind (IF ∷ WHILE ∷ AWAIT ∷ [])) (λ d. rw (e, d)) (λ d. rw (e, d)))

-- so that what a record touches is added by its three numbers
pub with_record_by : (t : Touched) (r : Record) {with_b reads' writes' : List Bool}
    → with_b ≡ added t.reads (λ v. reads_b r && eqb r.b v)
    → reads' ≡ added with_b (λ v. reads_k r && eqb r.k v)
    → writes' ≡ added t.writes (λ v. eqb r.kind SET && eqb r.a v)
    → ◌≡◌ {A = Touched} (record { reads = reads'; writes = writes' }) (with_record t r)
unfolding with_record writes
with_record_by t r b k w =
    let by_both = values_same (λ v. get_or t.reads v false || reads v r) _ variables
    (λ v l. ap (λ (x : Bool). get_or t.reads v false || x) (reads_by v r)) in
    rw (k, b, w, added_both t.reads (λ v. reads_b r && eqb r.b v) (λ v. reads_k r && eqb r.k v), by_both)

-- what many records touch is what one of them touches
with_places_by : (list : List ℕ) (t : Touched) (ps : List ℕ) → length t.reads ≡ variables → length t.writes ≡ variables
    → with_places list t ps
    ≡ record {
      reads = added t.reads (λ v. some_of (λ p. reads v (list_record_at list p).own) ps);
      writes = added t.writes (λ v. some_of (λ p. writes v (list_record_at list p).own) ps);
    }
unfolding with_places with_record some_of
with_places_by list t [] r w =
    rw (← added_none t.reads (λ v. false) r (λ v l. refl), ← added_none t.writes (λ v. false) w (λ v l. refl))
with_places_by list t (p ∷ ps) r w =
    let own = (list_record_at list p).own in
    rw (
      with_places_by list (with_record t own) ps (length_values _ variables) (length_values _ variables),
      added_both t.reads (λ v. reads v own) (λ v. some_of (λ q. reads v (list_record_at list q).own) ps),
      added_both t.writes (λ v. writes v own) (λ v. some_of (λ q. writes v (list_record_at list q).own) ps),
    )

-- nothing is touched
abbrev nothing : Touched
nothing = record { reads = replicate variables false; writes = replicate variables false }

added_first : (f : ℕ → Bool) → added (replicate variables false) f ≡ values f variables
added_first f = values_same _ f variables (λ v l. rw (get_or-replicate variables v false false l))

-- a step that is no AWAIT, or of a station that is not ready, touches what its record touches
pub touched_itself : (list : List ℕ) (e : ListRecord) (ready : Bool) → (eqb e.own.kind AWAIT && ready) ≡ false
    → with_record nothing e.own ≡ touched_by list e ready
unfolding with_record touched
touched_itself list e ready other =
    simp (other, added_first, or-false)

-- and an AWAIT that is ready also what its body's records touch
pub touched_await : (list : List ℕ) (e : ListRecord) (ready : Bool) → (eqb e.own.kind AWAIT && ready) ≡ true
    → with_places list (with_record nothing e.own) (body_within list e.t1) ≡ touched_by list e ready
unfolding with_record touched
touched_await list e ready await =
    let itself = with_record nothing e.own in
    rw (with_places_by list itself (body_within list e.t1) (length_values _ variables) (length_values _ variables))
    (simp added_both (simp (added_first, await)))
