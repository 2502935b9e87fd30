-- Records that are right at their places make a sound list. Assumes nothing.
use mathlib.Core.Path.{◌≡◌, refl}
use mathlib.Core.Bool.{true, false, not, or-true}
use mathlib.Core.Logic.{inl, inr}
use mathlib.Core.List.{List}
use Prim.Native.Nat.{ℕ, suc, ◌+◌, ◌-◌, ◌≤◌, ◌<◌, ◌%◌}
use native.Mathlib.Nat.{zero-add}
use native.Mathlib.Omega.{arith}
use lib.Dec.{eqb, leb, ltb}
use lib.ListN.{length, get_or}
use borrow.Author.Tests.{le-leb, lt-ltb, eq-eqb, ne_eqb}
use Rattle.rules.specs.Names.{SKIP, INIT, max_list, max_stations, no_station}
use Rattle.rules.specs.Records.{ListRecord, list_record_at, list_count}
use Rattle.rules.specs.Fields.{fields_right, rules_of}
use Rattle.rules.specs.Build.{bare, bytes_of}
use Rattle.rules.specs.List.{stations, initials, initials_after, is_at, init_right, initial_right, outside_targets, inside_target, inside_targets, later_right, sound_list}
use Rattle.laws.proofs.Choice.{both}
use Rattle.laws.proofs.Places.{each_all, first_is}
use Rattle.built.specs.Targets.{blank}
use Rattle.built.proofs.Along.{Along, along_at}
use Rattle.built.proofs.Bytes.{length_bytes_of, count_bytes_of, decoded}
use Rattle.built.proofs.Right.{Initial, sets, Names, Leads, Init, opens, Later, skip_right, set_right, if_right, while_right, await_right, stop_right, Right, as_init, as_initial, as_later, right_fits}

skip_fields : fields_right (bare SKIP 0) ≡ true
unfolding fields_right rules_of
skip_fields = refl

module _ (es : List ListRecord) (n m : ℕ) (right : Along (Right es n m) 0 es) (some : 1 ≤ n) (few : n ≤ max_stations)
    (more : n + m < length es) (short : length es ≤ max_list) where
  abbrev list : List ℕ
  list = bytes_of es

  right_at : (p : ℕ) → p < length es → Right es n m p (get_or es p blank)
  right_at p l = rw zero-add at (along_at (Right es n m) 0 es right p blank l)

  -- the bytes spell the records
  pub at : (p : ℕ) → p < length es → list_record_at list p ≡ get_or es p blank
  at = decoded es (λ p l. right_fits es n m short (right_at p l))

  not_init : {p : ℕ} {e : ListRecord} → n ≤ p → Right es n m p e → eqb e.own.kind INIT ≡ false
  not_init l (as_init k h) = absurd (omega arith)
  not_init l (as_initial k i (sets e g)) = rw e
  not_init l (as_later k (skip_right b s h)) = refl
  not_init l (as_later k (set_right b s e g h)) = rw e
  not_init l (as_later k (if_right b s e g h i)) = rw e
  not_init l (as_later k (while_right s e g h i)) = rw e
  not_init l (as_later k (await_right s e g h i)) = rw e
  not_init l (as_later k (stop_right s)) = refl

  is_init : {p : ℕ} {e : ListRecord} → p < n → Right es n m p e → Init es n m p e
  is_init l (as_init k h) = h
  is_init l (as_initial k i h) = absurd (omega arith)
  is_init l (as_later k h) = absurd (omega arith)

  is_initial : {p : ℕ} {e : ListRecord} → n ≤ p → p < n + m → Right es n m p e → Initial e
  is_initial k l (as_init i h) = absurd (omega arith)
  is_initial k l (as_initial i j h) = h
  is_initial k l (as_later i h) = absurd (omega arith)

  is_later : {p : ℕ} {e : ListRecord} → n + m ≤ p → Right es n m p e → Later es n m p e
  is_later l (as_init k h) = absurd (omega arith)
  is_later l (as_initial k i h) = absurd (omega arith)
  is_later l (as_later k h) = h

  init_kind : {p : ℕ} {e : ListRecord} → Init es n m p e → e.own.kind ≡ INIT
  init_kind (opens h) = refl

  initial_station : {e : ListRecord} → Initial e → e.station ≡ no_station
  initial_station (sets k g) = refl

  later_station : {p : ℕ} {e : ListRecord} → Later es n m p e → e.station < n
  later_station (skip_right b s h) = s
  later_station (set_right b s e g h) = s
  later_station (if_right b s e g h i) = s
  later_station (while_right s e g h i) = s
  later_station (await_right s e g h i) = s
  later_station (stop_right s) = s

  pub stations_are : stations list ≡ n
  unfolding stations
  stations_are =
      let c = count_bytes_of es in
      first_is (λ p. not (eqb (list_record_at list p).own.kind INIT)) (list_count list) n (omega arith)
      (rw (at n (omega arith), not_init (omega arith) (right_at n (omega arith))) refl)
      (λ k l. rw (at k (omega arith), init_kind (is_init l (right_at k (omega arith)))) refl)

  initials_found : initials_after list n ≡ m
  unfolding initials_after
  initials_found =
      let c = count_bytes_of es in
      let s = later_station (is_later (omega arith) (right_at (n + m) more)) in
      first_is (λ i. not (eqb (list_record_at list (n + i)).station no_station)) (list_count list - n) m (omega arith)
      (rw (at (n + m) more, ne_eqb (get_or es (n + m) blank).station no_station (λ e. omega arith)) refl)
      (λ k l. rw (at (n + k) (omega arith), initial_station (is_initial (omega arith) (omega arith) (right_at (n + k) (omega arith)))) refl)

  pub initials_are : initials list ≡ m
  initials_are = rw stations_are initials_found

  names_at : {inside station t : ℕ} → Names es n m inside station t → is_at list (n + m) inside station t ≡ true
  unfolding is_at
  names_at {inside} {station} {t} h =
      let a : leb (n + m) t ≡ true = le-leb (n + m) t h.from in
      let b : ltb t (length es) ≡ true = lt-ltb t (length es) h.below in
      let c : eqb inside inside ≡ true = eq-eqb inside inside refl in
      let d : eqb station station ≡ true = eq-eqb station station refl in
      rw (count_bytes_of es, at t h.below, h.inside_is, h.station_is, a, b, c, d)

  leads_in : {station q t : ℕ} → Leads es n m true station (suc q) t → inside_target list (n + m) station q t ≡ true
  unfolding inside_target
  leads_in {station} {q} {t} (inl e) = rw e
  leads_in {station} {q} {t} (inr h) = rw (lt-ltb q t h.0, names_at h.1) (or-true (eqb t 0))

  init_holds : (j : ℕ) (e : ListRecord) → list_record_at list j ≡ e → Init es n m j e → init_right list (n + m) j ≡ true
  unfolding init_right
  init_holds j e d (opens h) = rw (d, eq-eqb j j refl, names_at h)

  initial_holds : (p : ℕ) (e : ListRecord) → list_record_at list p ≡ e → Initial e → initial_right list p ≡ true
  unfolding initial_right
  initial_holds p e d (sets k g) = rw (d, g.fields, k)

  numbered : {station : ℕ} → station < n → ltb station n ≡ true
  numbered {station} l = lt-ltb station n l

  later_holds : (p : ℕ) (e : ListRecord) → list_record_at list p ≡ e → Later es n m p e → later_right list n (n + m) p ≡ true
  unfolding later_right outside_targets inside_targets
  later_holds p e d (skip_right false s h) = rw (d, numbered s, skip_fields, names_at h)
  later_holds p e d (skip_right true s h) = rw (d, numbered s, skip_fields, leads_in h)
  later_holds p e d (set_right false s k g h) = rw (d, numbered s, g.fields, k, names_at h)
  later_holds p e d (set_right true s k g h) = rw (d, numbered s, g.fields, k, leads_in h)
  later_holds p e d (if_right false s k g h i) = rw (d, numbered s, g.fields, k, names_at h, names_at i)
  later_holds p e d (if_right true s k g h i) = rw (d, numbered s, g.fields, k, leads_in h, leads_in i)
  later_holds p e d (while_right s k g h i) = rw (d, numbered s, g.fields, k, names_at h, names_at i)
  later_holds p e d (await_right s k g h i) = rw (d, numbered s, g.fields, k, eq-eqb (suc p) (suc p) refl, names_at h, names_at i)
  later_holds p e d (stop_right s) = rw (d, numbered s)

  pub sound : sound_list list ≡ true
  unfolding sound_list
  sound =
      let l = length_bytes_of es in
      let c = count_bytes_of es in
      rw (stations_are, initials_found)
      (both (both (both (both (both (both
      (eq-eqb (length list % 16) 0 (omega arith))
      (le-leb (list_count list) max_list (omega arith)))
      (le-leb 1 n some))
      (le-leb n max_stations few))
      (each_all (init_right list (n + m)) n (λ j l. init_holds j _ (at j (omega arith)) (is_init l (right_at j (omega arith))))))
      (each_all (λ i. initial_right list (n + i)) m
      (λ i l. initial_holds (n + i) _ (at (n + i) (omega arith)) (is_initial (omega arith) (omega arith) (right_at (n + i) (omega arith))))))
      (each_all (λ i. later_right list n (n + m) (n + m + i)) (list_count list - (n + m))
      (λ i l. later_holds (n + m + i) _ (at (n + m + i) (omega arith)) (is_later (omega arith) (right_at (n + m + i) (omega arith))))))
