-- The stations of a list: at each outside place the record and what remains there match, and at its INIT's target a station remains whole.
-- By induction on the stations. Assumes nothing.
use mathlib.Core.Path.{◌≡◌, ◌∙◌}
use mathlib.Core.List.{List, ◌∷◌}
use Prim.Native.Nat.{ℕ, zero, suc, ◌+◌, ◌-◌, ◌≤◌, ◌<◌}
use native.Mathlib.Nat.{add-zero, not-suc-le-zero, le_of_suc-le-suc}
use native.Mathlib.Omega.{arith}
use lib.ListN.{length, get_or, get_or-eq_default}
use Rattle.rules.specs.Names.{STOP}
use Rattle.rules.specs.Records.{list_record_at, list_count}
use Rattle.rules.specs.Trees.{Statements, size}
use Rattle.rules.specs.Build.{bare, listed, inits, bodies}
use Rattle.reading.specs.Reading.{Stations, no_stations, a_station}
use Rattle.built.proofs.Along.{Along, along_all}
use Rattle.built.proofs.Lengths.{extent}
use Rattle.built.proofs.Standing.{apart, together}
use Rattle.built.proofs.Steps.{some_start}
use Rattle.language.specs.Language.{Program, E}
use Rattle.language.specs.Rests.{program_of, rests, remains}
use Rattle.language.proofs.Sequence.{then_nothing}
use Rattle.language.proofs.Bodies.{Spelt}
use Rattle.language.proofs.Matched.{length_rests, at_stop, Means, RightAt, starts, matched}

module _ (list : List ℕ) (means : ℕ → ℕ → Program) where
  -- what remains of the stations from j on, the first of them at the place p, is so told
  abbrev Told : ℕ → ℕ → List Statements → Type 0
  Told j p stations = (i q : ℕ) → means (j + i) q ≡ remains p stations i q

  told_first : (j p : ℕ) (x : Statements) (stations : List Statements) → Told j p (x ∷ stations) → (q : ℕ)
      → means j q ≡ get_or (rests E x) (q - p) E
  unfolding remains
  told_first j p x stations f q = rw (add-zero j) at (f 0 q)

  told_others : (j p : ℕ) (x : Statements) (stations : List Statements) → Told j p (x ∷ stations) → Told (suc j) (suc (p + size x)) stations
  unfolding remains
  told_others j p x stations f i q = let e : j + suc i ≡ suc j + i = omega arith in rw e at (f (suc i) q)

  -- at the steps of the first of them, and at its STOP
  told_steps : (j p : ℕ) (x : Statements) (stations : List Statements) → Told j p (x ∷ stations) → Along (Means list means j) p (rests E x)
  told_steps j p x stations f =
      along_all (Means list means j) p (rests E x) E
      (λ i l. let e : p + i - p ≡ i = omega arith in told_first j p x stations f (p + i) ∙ rw e)

  told_stop : (j p : ℕ) (x : Statements) (stations : List Statements) → Told j p (x ∷ stations) → means j (p + size x) ≡ E
  told_stop j p x stations f =
      let l = length_rests x E in
      let e : p + size x - p ≡ size x = omega arith in
      told_first j p x stations f (p + size x) ∙ rw e (get_or-eq_default (rests E x) E (omega arith))

  pub stations_match : {stations : List Statements} → Stations stations → (j p : ℕ) → p + extent stations ≤ list_count list
      → Told j p stations → Along (Spelt list) p (bodies j p stations) → Along (RightAt list means) p (bodies j p stations)
  unfolding bodies extent
  stations_match no_stations j p l f h = tt
  stations_match (a_station {x = x} {stations = stations} s c d) j p l f h =
      let exit : ℕ = p + size x in
      let others = listed (bare STOP 0) j 0 0 0 ∷ bodies (suc j) (suc exit) stations in
      let hx = apart (Spelt list) j 0 p exit x others h in
      let stop = told_stop j p x stations f in
      together (RightAt list means) j 0 p exit x others
      (matched list means j c p exit E (omega arith) stop hx.0 (told_steps j p x stations f))
      (rw hx.1.0 (λ z. rw stop at_stop), stations_match d (suc j) (suc exit) (omega arith) (told_others j p x stations f) hx.1.1)

  pub stations_whole : {stations : List Statements} → Stations stations → (j p : ℕ) → Told j p stations
      → Along (Spelt list) j (inits j p stations) → (i : ℕ) → i < length stations
      → means (j + i) (list_record_at list (j + i)).t1 ≡ program_of (get_or stations i Statements.nothing)
  unfolding inits
  stations_whole no_stations j p f h i l = absurd (not-suc-le-zero l)
  stations_whole (a_station {x = x} {stations = stations} s c d) j p f h zero l =
      let start = starts list means j x p (p + size x) E (told_stop j p x stations f) (told_steps j p x stations f) in
      rw (add-zero j, h.0) (rw (some_start x p (p + size x) s, then_nothing) at start)
  stations_whole (a_station {x = x} {stations = stations} s c d) j p f h (suc i) l =
      let e : j + suc i ≡ suc j + i = omega arith in
      rw e (stations_whole d (suc j) (suc (p + size x)) (told_others j p x stations f) h.1 i (le_of_suc-le-suc l))
