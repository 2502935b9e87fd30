-- In a sound list a station's step leads from an outside record of the station to another. Assumes nothing.
use mathlib.Core.Path.{◌≡◌, subst}
use mathlib.Core.Bool.{true, false, ◌&&◌, false≢true}
use mathlib.Core.List.{List, [], ◌∷◌}
use Prim.Native.Nat.{ℕ, suc}
use borrow.Author.Tests.{eqb-true}
use lib.Dec.{eqb}
use Rattle.rules.specs.Words.{among}
use Rattle.rules.specs.Names.{SKIP, SET, IF, WHILE, AWAIT, STOP}
use Rattle.rules.specs.Records.{ListRecord, list_record_at}
use Rattle.rules.specs.List.{later, outside, inside, outside_targets, sound_list}
use Rattle.rules.specs.Values.{holds}
use Rattle.rules.specs.Move.{target_after, step_position}
use Rattle.laws.proofs.Choice.{by_test, both_left, both_right, split}
use Rattle.laws.proofs.Sound.{at_means, outside_right}

-- SKIP and SET are no tests
kinds_apart : (kind : ℕ) → among kind (SKIP ∷ SET ∷ []) ≡ true → among kind (IF ∷ WHILE ∷ []) ≡ true → ⊥
kinds_apart kind h k =
    by_test (eqb kind SKIP)
    (λ e. false≢true (rw (eqb-true kind SKIP e) at k))
    (λ e. by_test (eqb kind SET)
    (λ d. false≢true (rw (eqb-true kind SET d) at k))
    (λ d. false≢true (rw (e, d) at h)))

-- a step leads to t1, or from a test to t1 or t2
target_has : (P : ℕ → Type 0) (vars : List ℕ) (e : ListRecord) → P e.t1 → (among e.own.kind (IF ∷ WHILE ∷ []) ≡ true → P e.t2)
    → P (target_after vars e)
target_has P vars e first second =
    by_test (among e.own.kind (IF ∷ WHILE ∷ []))
    (λ t. by_test (holds vars e.own) (λ h. rw (t, h) first) (λ h. rw (t, h) (second t)))
    (λ t. rw t first)

-- so that whatever an outside record's step leads to is outside, of its station
step_outside : (list : List ℕ) (p : ℕ) (vars : List ℕ) → outside_targets list (later list) p (list_record_at list p) ≡ true
    → eqb (list_record_at list p).own.kind STOP ≡ false
    → outside list (list_record_at list p).station (step_position vars (list_record_at list p)) ≡ true
unfolding outside_targets step_position
step_outside list p vars right going =
    let e = list_record_at list p in
    let leads = target_has (λ t. outside list e.station t ≡ true) vars e in
    by_test (eqb e.own.kind AWAIT)
    (λ a. rw a (both_right (eqb e.t1 (suc p) && inside list e.station e.t1) _ (rw (going, a, outside_targets) at right)))
    (λ a. by_test (among e.own.kind (SKIP ∷ SET ∷ []))
    (λ b. rw a (leads (both_left _ (eqb e.t2 0) (rw (going, a, b, outside_targets) at right)) (λ c. absurd (kinds_apart e.own.kind b c))))
    (λ b. let both = split _ _ (rw (going, a, b, outside_targets) at right) in rw a (leads both.0 (λ c. both.1))))

-- and of the station that stands there
pub position_outside : (list : List ℕ) (j p : ℕ) (vars : List ℕ) → sound_list list ≡ true → outside list j p ≡ true
    → eqb (list_record_at list p).own.kind STOP ≡ false → outside list j (step_position vars (list_record_at list p)) ≡ true
position_outside list j p vars h o going =
    subst (λ (k : ℕ). outside list k (step_position vars (list_record_at list p)) ≡ true) (at_means list 0 j p o).of_station
    (step_outside list p vars (outside_right list h j p o) going)
