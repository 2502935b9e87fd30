-- What a sound list says of its records and a sound state of its stations, place by place. Assumes nothing.
use mathlib.Core.Path.{◌≡◌, sym, ◌∙◌}
use mathlib.Core.Logic.{◌↔◌, ◌⊎◌, inl, inr}
use mathlib.Core.Bool.{Bool, true, false, not, and-false}
use mathlib.Core.List.{List}
use Prim.Native.Nat.{ℕ, suc, ◌+◌, ◌*◌, ◌-◌, ◌%◌, ◌≤◌, ◌<◌}
use native.Mathlib.Omega.{arith}
use borrow.Author.Tests.{leb-true, le-leb, ltb-true, eqb-true, eq-eqb, not-false}
use lib.Dec.{eqb, leb, ltb}
use lib.ListN.{length}
use Rattle.rules.specs.Words.{each}
use Rattle.rules.specs.Names.{IF, max_list, max_stations, max_steps}
use Rattle.rules.specs.Records.{list_record_at, list_count}
use Rattle.rules.specs.List.{stations, initials, later, is_at, outside, inside, init_right, initial_right, later_right, sound_list}
use Rattle.rules.specs.List.{inside_target, outside_targets, inside_targets}
use Rattle.rules.specs.State.{State, position, priority, count, in_bound, few_low, empty_at, sound_state}
use Rattle.laws.specs.Passed.{Known}
use Rattle.laws.proofs.Choice.{by_test, surely, both, split}
use Rattle.laws.proofs.Places.{each_at, each_all, each_from}

-- record p, found outside (byte 0) or inside (byte 1)
pub record Found (list : List ℕ) (byte station p : ℕ) : Type 0 where
  pub from : later list ≤ p
  pub within : p < list_count list
  pub byte_is : (list_record_at list p).inside ≡ byte
  pub of_station : (list_record_at list p).station ≡ station

pub at_means : (list : List ℕ) (byte station p : ℕ) → is_at list (later list) byte station p ≡ true → Found list byte station p
unfolding is_at
at_means list byte station p here =
    let e = list_record_at list p in
    record {
      from = leb-true (later list) p (surely (leb (later list) p) (λ d. simp d at here));
      within = ltb-true p (list_count list) (surely (ltb p (list_count list)) (λ d. simp (d, and-false) at here));
      byte_is = eqb-true e.inside byte (surely (eqb e.inside byte) (λ d. simp (d, and-false) at here));
      of_station = eqb-true e.station station (surely (eqb e.station station) (λ d. simp (d, and-false) at here));
    }

-- where a target within a body leads: out of it, or to a higher inside record
abbrev pub Onward : List ℕ → ℕ → ℕ → ℕ → Type 0
Onward list station p t = (t ≡ 0) ⊎ ((p < t) × (inside list station t ≡ true))

pub onward : (list : List ℕ) (station p t : ℕ) → inside_target list (later list) station p t ≡ true → Onward list station p t
unfolding inside_target
onward list station p t right =
    by_test (eqb t 0) (λ e. inl (eqb-true t 0 e))
    (λ e. inr (
      ltb-true p t (surely (ltb p t) (λ d. simp (e, d) at right)),
      surely (inside list station t) (λ d. simp (e, d, and-false) at right),
    ))

-- an inside record: it is not the first record, and its targets lead onward
pub record Inside (list : List ℕ) (station p : ℕ) : Type 0 where
  pub follows : 0 < p
  pub within : p < list_count list
  pub byte_is : (list_record_at list p).inside ≡ 1
  pub by_t1 : Onward list station p (list_record_at list p).t1
  pub by_t2 : Onward list station p (list_record_at list p).t2

module _ (list : List ℕ) (sound : sound_list list ≡ true) where
  pub whole : 16 * list_count list ≡ length list
  unfolding sound_list
  whole = omega (arith, eqb-true (length list % 16) 0 (surely (eqb (length list % 16) 0) (λ e. simp e at sound)))

  pub short : list_count list ≤ max_list
  unfolding sound_list
  short = leb-true (list_count list) max_list (surely (leb (list_count list) max_list) (λ e. simp (e, and-false) at sound))

  pub some_station : 0 < stations list
  unfolding sound_list
  some_station = leb-true 1 (stations list) (surely (leb 1 (stations list)) (λ e. simp (e, and-false) at sound))

  pub few_stations : stations list ≤ max_stations
  unfolding sound_list
  few_stations = leb-true (stations list) max_stations (surely (leb (stations list) max_stations) (λ e. simp (e, and-false) at sound))

  pub inits_right : (j : ℕ) → j < stations list → init_right list (later list) j ≡ true
  unfolding sound_list
  inits_right =
      each_at (init_right list (later list)) (stations list) (surely (each (init_right list (later list)) (stations list)) (λ e. simp (e, and-false) at sound))

  pub initials_right : (p : ℕ) → stations list ≤ p → p < later list → initial_right list p ≡ true
  unfolding sound_list
  initials_right p above below =
      let test : ℕ → Bool = λ i. initial_right list (stations list + i) in
      let back : stations list + (p - stations list) ≡ p = omega arith in
      rw back at (each_at test (initials list) (surely (each test (initials list)) (λ e. simp (e, and-false) at sound)) (p - stations list) (omega arith))

  pub laters_right : (p : ℕ) → later list ≤ p → p < list_count list → later_right list (stations list) (later list) p ≡ true
  unfolding sound_list
  laters_right =
      let test : ℕ → Bool = λ i. later_right list (stations list) (later list) (later list + i) in
      let count = list_count list - later list in
      each_from (later_right list (stations list) (later list)) (later list) (list_count list) (surely (each test count) (λ e. simp (e, and-false) at sound))

  module _ (station p : ℕ) where
    pub outside_right : outside list station p ≡ true → outside_targets list (later list) p (list_record_at list p) ≡ true
    unfolding later_right
    outside_right here =
        let is = at_means list 0 station p here in
        surely (outside_targets list (later list) p (list_record_at list p)) (λ d. simp (is.byte_is, d, and-false) at (laters_right p is.from is.within))

    inside_right : inside list station p ≡ true → inside_targets list (later list) p (list_record_at list p) ≡ true
    unfolding later_right
    inside_right here =
        let is = at_means list 1 station p here in
        surely (inside_targets list (later list) p (list_record_at list p)) (λ d. simp (is.byte_is, d, and-false) at (laters_right p is.from is.within))

    pub inside_means : inside list station p ≡ true → Inside list station p
    unfolding inside_target inside_targets
    inside_means here =
        let e = list_record_at list p in
        let is = at_means list 1 station p here in
        let targets = inside_right here in
        let first = surely (inside_target list (later list) station p e.t1) (λ d. simp (is.of_station, d) at targets) in
        let second = by_test (eqb e.own.kind IF)
        (λ k. surely (inside_target list (later list) station p e.t2) (λ d. simp (is.of_station, k, d, and-false) at targets))
        (λ k. rw (surely (eqb e.t2 0) (λ d. simp (k, d, and-false) at targets))) in
        record {
          follows = omega (arith, some_station, is.from);
          within = is.within;
          byte_is = is.byte_is;
          by_t1 = onward list station p e.t1 first;
          by_t2 = onward list station p e.t2 second;
        }

-- a sound state
pub record Clauses (list : List ℕ) (s : State) : Type 0 where
  pub of_list : s.n ≡ stations list
  pub few_steps : s.m ≤ max_steps
  pub placed : (j : ℕ) → j < s.n → outside list j (position s j) ≡ true
  pub bounded : (j : ℕ) → j < s.n → in_bound s.b (priority s j) (count s j) ≡ true
  pub few : (i : ℕ) → i < s.n → few_low s (suc i) ≡ true
  pub empty : (j : ℕ) → s.n ≤ j → j < max_stations → empty_at s j ≡ true

pub sound_means : (list : List ℕ) (s : State) → (sound_state list s ≡ true) ↔ Clauses list s
unfolding sound_state
sound_means list s = (
  λ h.
      let e = split _ _ h in
      let f = split _ _ e.0 in
      let b = split _ _ f.0 in
      let p = split _ _ b.0 in
      let m = split _ _ p.0 in
      record {
        of_list = eqb-true s.n (stations list) m.0;
        few_steps = leb-true s.m max_steps m.1;
        placed = each_at _ s.n p.1;
        bounded = each_at _ s.n b.1;
        few = each_at _ s.n f.1;
        empty = each_from (empty_at s) s.n max_stations e.1;
      },
  λ h. both (both (both (both (both
      (eq-eqb s.n (stations list) h.of_list)
      (le-leb s.m max_steps h.few_steps))
      (each_all _ s.n h.placed))
      (each_all _ s.n h.bounded))
      (each_all _ s.n h.few))
      (each_all _ (max_stations - s.n) (λ i l. h.empty (s.n + i) (omega arith) (omega arith))),
)

-- its stations are the list's, at most eight
module _ {list : List ℕ} {s : State} (known : Known list s) where
  pub stations_are : s.n ≡ stations list
  stations_are = ((sound_means list s).0 known.of_state).of_list

  pub at_most_eight : s.n ≤ max_stations
  at_most_eight = omega (arith, few_stations list known.of_list, stations_are)

-- where two tests of code are those of 7 and 8, and both passed
pub sound_both : {list : List ℕ} {s : State} {a b : Bool}
    → a ≡ sound_list list → not a ≡ false → b ≡ sound_state list s → not b ≡ false → Known list s
sound_both {a = a} {b = b} e p f q = record { of_list = sym e ∙ not-false a p; of_state = sym f ∙ not-false b q }
