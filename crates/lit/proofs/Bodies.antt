-- A body is what is reached: on a sound list, from an inside record, the rules' one pass upward takes exactly the places that targets of
-- inside records reach. The theorems stand at the end. Assumes nothing.
use mathlib.Core.Path.{◌≡◌, refl, sym, ◌∙◌}
use mathlib.Core.Logic.{inl, inr}
use mathlib.Core.Bool.{true, false, false≢true, or-true}
use mathlib.Core.List.{List, [], ◌∷◌}
use Prim.Native.Nat.{ℕ, zero, suc, ◌+◌, ◌-◌, ◌≤◌, ◌<◌}
use native.Mathlib.Omega.{arith}
use borrow.Author.Tests.{eqb-true, eqb-false, eq-eqb}
use lib.Dec.{eqb}
use Rattle.rules.specs.Words.{among}
use Rattle.rules.specs.Names.{AWAIT}
use Rattle.rules.specs.Records.{list_record_at, list_count}
use Rattle.rules.specs.List.{outside, inside, sound_list}
use Rattle.rules.specs.Lights.{led_to, body}
use Rattle.laws.proofs.Choice.{by_test}
use Rattle.lit.specs.Reached.{Reached, itself, by_t1, by_t2, BodyIsReached}
use Rattle.laws.proofs.Sound.{Onward, inside_means}
use Rattle.lit.proofs.Inside.{await_leads_in}

among_two : (q a b : ℕ) (more : List ℕ) → among q (a ∷ b ∷ []) ≡ true → among q (a ∷ b ∷ more) ≡ true
among_two q a b more here =
    by_test (eqb q a) (λ e. rw e) (λ e. by_test (eqb q b) (λ d. rw (d, or-true)) (λ d. absurd (false≢true (rw (e, d) at here))))

module _ (list : List ℕ) where
  -- a place that is wanted is taken when the pass comes to it
  led_wanted : (n place q : ℕ) (wanted : List ℕ) → place ≤ q → q < place + n → among q wanted ≡ true
      → among q (led_to list n place wanted) ≡ true
  unfolding led_to
  led_wanted zero place q wanted from to here = absurd (omega arith)
  led_wanted (suc n) place q wanted from to here =
      let on : eqb q place ≡ false → suc place ≤ q = λ other. let apart = eqb-false q place other in omega (arith, apart) in
      by_test (eqb q place)
      (λ same. let is = eqb-true q place same in rw (sym is, here, eq-eqb q q refl))
      (λ other. by_test (among place wanted)
      (λ taken. rw (taken, other) (led_wanted n (suc place) q _ (on other) (omega arith) (rw (here, or-true, or-true))))
      (λ passed. rw passed (led_wanted n (suc place) q wanted (on other) (omega arith) here)))

  -- and so is a higher target of a place that is taken
  led_onward : (n place p q : ℕ) (wanted : List ℕ) → among p (led_to list n place wanted) ≡ true
      → among q ((list_record_at list p).t1 ∷ (list_record_at list p).t2 ∷ []) ≡ true → p < q → q < place + n
      → among q (led_to list n place wanted) ≡ true
  unfolding led_to
  led_onward zero place p q wanted taken target above to = absurd (false≢true taken)
  led_onward (suc n) place p q wanted taken target above to =
      let e = list_record_at list place in
      let rest : among place wanted ≡ true → among q (led_to list n (suc place) (e.t1 ∷ e.t2 ∷ wanted)) ≡ true = λ here.
      by_test (eqb p place)
      (λ same. let is = eqb-true p place same in
      led_wanted n (suc place) q _ (omega arith) (omega arith) (among_two q e.t1 e.t2 wanted (rw is at target)))
      (λ other. led_onward n (suc place) p q _ (rw (here, other) at taken) target above (omega arith)) in
      by_test (among place wanted)
      (λ here. rw here (rw (rest here, or-true)))
      (λ passed. rw passed (led_onward n (suc place) p q wanted (rw passed at taken) target above (omega arith)))

module _ (list : List ℕ) (sound : sound_list list ≡ true) (station t : ℕ) (start : inside list station t ≡ true) where
  -- every place reached is an inside record of the station
  led_in : {p q : ℕ} → Onward list station p q → (q ≡ 0 → ⊥) → (p < q) × (inside list station q ≡ true)
  led_in (inl none) other = absurd (other none)
  led_in (inr on) other = on

  reached_inside : {q : ℕ} → Reached list t q → inside list station q ≡ true
  reached_inside itself = start
  reached_inside (by_t1 {p} r byte other) = (led_in (inside_means list sound station p (reached_inside r)).by_t1 other).1
  reached_inside (by_t2 {p} r byte other) = (led_in (inside_means list sound station p (reached_inside r)).by_t2 other).1

  -- what is wanted is reached, so what is taken is reached
  led_reached : (n place : ℕ) (wanted : List ℕ) → 0 < place
      → ((w : ℕ) → among w wanted ≡ true → (w ≡ 0 → ⊥) → Reached list t w)
      → (q : ℕ) → among q (led_to list n place wanted) ≡ true → Reached list t q
  unfolding led_to
  led_reached zero place wanted follows reached q taken = absurd (false≢true taken)
  led_reached (suc n) place wanted follows reached q taken =
      by_test (among place wanted)
      (λ here.
      let e = list_record_at list place in
      let r = reached place here (λ none. omega arith) in
      let byte = (inside_means list sound station place (reached_inside r)).byte_is in
      let targets : (w : ℕ) → among w (e.t1 ∷ e.t2 ∷ wanted) ≡ true → (w ≡ 0 → ⊥) → Reached list t w = λ w among_them other.
      by_test (eqb w e.t1)
      (λ is. let same = eqb-true w e.t1 is in rw same (by_t1 r byte (λ none. other (same ∙ none))))
      (λ not_t1. by_test (eqb w e.t2)
      (λ is. let same = eqb-true w e.t2 is in rw same (by_t2 r byte (λ none. other (same ∙ none))))
      (λ not_t2. reached w (rw (not_t1, not_t2) at among_them) other)) in
      by_test (eqb q place)
      (λ same. rw (eqb-true q place same) r)
      (λ other. led_reached n (suc place) _ (omega arith) targets q (rw (here, other) at taken)))
      (λ passed. led_reached n (suc place) wanted (omega arith) reached q (rw passed at taken))

  -- and what is reached is taken
  target_taken : (p q : ℕ) → among p (body list t) ≡ true → among q ((list_record_at list p).t1 ∷ (list_record_at list p).t2 ∷ []) ≡ true
      → (p < q) × (inside list station q ≡ true) → among q (body list t) ≡ true
  unfolding body
  target_taken p q taken target on =
      led_onward list (list_count list - t) t p q (t ∷ []) taken target on.0
      (omega (arith, (inside_means list sound station t start).within, (inside_means list sound station q on.1).within))

  reached_taken : {q : ℕ} → Reached list t q → among q (body list t) ≡ true
  unfolding body
  reached_taken itself =
      led_wanted list (list_count list - t) t t (t ∷ []) (omega arith) (omega (arith, (inside_means list sound station t start).within))
      (rw (eq-eqb t t refl))
  reached_taken (by_t1 {p} r byte other) =
      target_taken p (list_record_at list p).t1 (reached_taken r) (rw (eq-eqb (list_record_at list p).t1 _ refl))
      (led_in (inside_means list sound station p (reached_inside r)).by_t1 other)
  reached_taken (by_t2 {p} r byte other) =
      target_taken p (list_record_at list p).t2 (reached_taken r) (rw (eq-eqb (list_record_at list p).t2 _ refl, or-true))
      (led_in (inside_means list sound station p (reached_inside r)).by_t2 other)

  -- from an inside record, the body is what is reached
  pub body_is_reached : BodyIsReached list t
  unfolding body
  body_is_reached q =
      let only_t : (w : ℕ) → among w (t ∷ []) ≡ true → (w ≡ 0 → ⊥) → Reached list t w = λ w here other.
      by_test (eqb w t) (λ same. rw (eqb-true w t same) itself) (λ apart. absurd (false≢true (rw apart at here))) in
      (led_reached (list_count list - t) t (t ∷ []) (inside_means list sound station t start).follows only_t q, reached_taken)

-- and so it is from the t1 of an AWAIT at an outside record
pub await_body_is_reached : (list : List ℕ) → sound_list list ≡ true → (station p : ℕ) → outside list station p ≡ true
    → eqb (list_record_at list p).own.kind AWAIT ≡ true → BodyIsReached list (list_record_at list p).t1
await_body_is_reached list sound station p here await =
    body_is_reached list sound station (list_record_at list p).t1 (await_leads_in list sound station p here await)
