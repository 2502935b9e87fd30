-- The pass over a body: what is wanted as marks and as the rules have it, place by place. Assumes nothing.
use mathlib.Core.Path.{◌≡◌, refl, sym, ◌∙◌}
use mathlib.Core.Bool.{Bool, true, false, ◌||◌, or-true}
use mathlib.Core.List.{List, [], ◌∷◌}
use Prim.Native.Nat.{ℕ, zero, suc, ◌+◌, ◌-◌, ◌≤◌, ◌<◌}
use native.Mathlib.Numerals.{add-one}
use native.Mathlib.Omega.{arith}
use borrow.Author.Tests.{leb-true, eqb-true, eqb-false}
use lib.Dec.{eqb, leb}
use lib.ListN.{length, get_or, set, take, replicate, get_or-replicate}
use Rattle.std.proofs.lemmas.List.{get_or-take, length-take-le, length-replicate}
use lib.Seq.{get_or-set_same, get_or-set_other}
use Rattle.rules.specs.Words.{among}
use Rattle.rules.specs.Names.{max_list}
use Rattle.rules.specs.Records.{ListRecord, list_record_at, list_count}
use Rattle.rules.specs.Lights.{led_to}
use Rattle.laws.proofs.Choice.{by_test}
use Rattle.touches.specs.declared.Touched.{Touched}
use Rattle.touches.specs.Touched.{searched, body_within, with_record, with_places, Wants}

-- no more than 1,032 records are searched
pub searched_most : (list : List ℕ) → searched list ≤ max_list
searched_most list =
    by_test (leb (list_count list) max_list) (λ e. rw e (leb-true _ _ e)) (λ e. rw e (omega arith))

-- one mark more
pub marked_one : (marks : List Bool) (t q : ℕ) → t < length marks → get_or (set marks t true) q false ≡ (eqb q t || get_or marks q false)
marked_one marks t q within =
    by_test (eqb q t)
    (λ e. rw (e, eqb-true q t e) (get_or-set_same marks t true false within))
    (λ e. rw e (get_or-set_other marks t q true false (eqb-false q t e)))

-- every place wanted lies below the end
past_end : {count t end end' : ℕ} {before after : List Bool} → Wants count t end before end' after
    → ((q : ℕ) → end ≤ q → q < count → get_or before q false ≡ false)
    → (q : ℕ) → end' ≤ q → q < count → get_or after q false ≡ false
past_end {count} {t} {end} {end'} w below q from to =
    by_test (eqb q t)
    (λ e. absurd (let same = eqb-true q t e in omega (arith, w.past (omega arith))))
    (λ e. w.marks q to ∙ rw e (below q (omega (arith, w.kept)) to))

-- where no place that is left is wanted, none is led to
led_none : (list : List ℕ) (n place : ℕ) (wanted : List ℕ) → ((q : ℕ) → place ≤ q → q < place + n → among q wanted ≡ false)
    → led_to list n place wanted ≡ []
unfolding led_to
led_none list zero place wanted none = refl
led_none list (suc n) place wanted none =
    rw (none place (omega arith) (omega arith)) (led_none list n (suc place) wanted (λ q from to. none q (omega arith) (omega arith)))

-- what holds at each place of the pass: the marks are those of some wanted places, all below the end; and what is touched so far, with
-- what the records from here on add, is what the whole body adds to what was touched before
pub record Walk (list : List ℕ) (before : Touched) (t1 : ℕ) (touched : Touched) (marks : List Bool) (end place : ℕ) : Type 0 where
  pub long : length marks ≡ searched list
  pub wanted : List ℕ
  pub marked : (q : ℕ) → q < searched list → get_or marks q false ≡ among q wanted
  pub past : (q : ℕ) → end ≤ q → q < searched list → get_or marks q false ≡ false
  pub within : end ≤ searched list
  pub left : with_places list touched (led_to list (searched list - place) place wanted)
      ≡ with_places list before (body_within list t1)

module _ (list : List ℕ) (before : Touched) (t1 : ℕ) where
  -- at the start only t1 is wanted
  pub begins : {count end : ℕ} {after : List Bool} → count ≡ searched list
      → Wants (length (take count (replicate max_list false))) t1 0 (take count (replicate max_list false)) end after
      → Walk list before t1 before after end t1
  unfolding body_within
  begins {count} is w =
      let marks = take count (replicate max_list false) in
      let long : length marks ≡ searched list =
      length-take-le count (replicate max_list false) (rw (is, length-replicate) (searched_most list)) ∙ is in
      let none : (q : ℕ) → q < searched list → get_or marks q false ≡ false =
      λ q l. get_or-take count (replicate max_list false) q false (omega arith) ∙ get_or-replicate max_list q false false (omega (arith, searched_most list)) in
      let first = rw long at w in
      record {
        long = first.long ∙ long;
        wanted = t1 ∷ [];
        marked = λ q l. first.marks q l ∙ rw (none q l);
        past = past_end first (λ q from to. none q to);
        within = first.within;
        left = refl;
      }

  module _ {touched : Touched} {marks : List Bool} {end place : ℕ} (walk : Walk list before t1 touched marks end place) where
    -- past the last place wanted nothing is left to be touched
    pub ends : end ≤ place → touched ≡ with_places list before (body_within list t1)
    unfolding with_places
    ends over =
        let none = led_none list (searched list - place) place walk.wanted
        (λ q from to. sym (walk.marked q (omega arith)) ∙ walk.past q (omega arith) (omega arith)) in
        rw none at walk.left

    -- a place that is not wanted is passed by
    pub passes : place < end → get_or marks place false ≡ false → Walk list before t1 touched marks end (place + 1)
    unfolding led_to
    passes inside unmarked =
        let within = walk.within in
        let one : searched list - place ≡ suc (searched list - (place + 1)) = omega arith in
        let unwanted = sym (walk.marked place (omega arith)) ∙ unmarked in
        record {
          long = walk.long;
          wanted = walk.wanted;
          marked = walk.marked;
          past = walk.past;
          within = walk.within;
          left = rw (add-one place) (rw (one, unwanted, add-one place) at walk.left);
        }

    -- one that is wanted is taken, and its targets are wanted
    pub takes : {e : ListRecord} {touched' : Touched} {marks₁ marks₂ : List Bool} {end₁ end₂ : ℕ}
        → place < end → get_or marks place false ≡ true → e ≡ list_record_at list place
        → touched' ≡ with_record touched e.own
        → Wants (length marks) e.t1 end marks end₁ marks₁ → Wants (length marks₁) e.t2 end₁ marks₁ end₂ marks₂
        → Walk list before t1 touched' marks₂ end₂ (place + 1)
    unfolding led_to with_places
    takes {e} inside mark here more one two =
        let within = walk.within in
        let first = rw walk.long at one in
        let second = rw (first.long ∙ walk.long) at two in
        let left : searched list - place ≡ suc (searched list - (place + 1)) = omega arith in
        let want = sym (walk.marked place (omega arith)) ∙ mark in
        record {
          long = second.long ∙ first.long ∙ walk.long;
          wanted = e.t1 ∷ e.t2 ∷ walk.wanted;
          marked = λ q l.
              second.marks q l
              ∙ rw (first.marks q l, walk.marked q l)
              (by_test (eqb q e.t2) (λ d. rw (d, or-true)) (λ d. rw d));
          past = past_end second (past_end first walk.past);
          within = second.within;
          left = rw (more, here, add-one place) (rw (left, want, add-one place) at walk.left);
        }
