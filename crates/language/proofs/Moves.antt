-- Where an outside record and what remains there match, the record's step is the program's transition. Assumes nothing.
use Rattle.std.specs.Prelude.{if◌then◌else◌}
use mathlib.Core.Path.{◌≡◌, refl, sym, ap, ◌∙◌}
use mathlib.Core.Logic.{◌≢◌}
use mathlib.Core.Bool.{Bool, true, false}
use mathlib.Core.List.{List, [], ◌∷◌}
use Prim.Native.Nat.{ℕ}
use native.Mathlib.Omega.{arith}
use lib.Dec.{eqb}
use Rattle.rules.specs.Words.{among}
use Rattle.rules.specs.Names.{SKIP, SET, IF, WHILE, AWAIT, STOP}
use Rattle.rules.specs.Records.{ListRecord, list_count}
use Rattle.rules.specs.Values.{assigned, holds}
use Rattle.rules.specs.Ready.{readiness_at, says_ready}
use Rattle.rules.specs.Move.{body_run, step_vars, step_position}
use Rattle.laws.proofs.Choice.{by_test}
use Rattle.laws.proofs.Ready.{ready_at_means}
use Rattle.language.specs.Language.{while_od, Program, only, ⟨◌∣◌⟩⟶⟨◌∣◌⟩, skip_rule, assign_rule, if_true, if_false, while_true, while_false, await_rule, sequence_rule, Disabled, terminated, waiting}
use Rattle.language.proofs.Sequence.{grouped}
use Rattle.language.proofs.Determined.{never}
use Rattle.language.proofs.Matched.{Matches, at_skip, at_assign, at_if, at_while, at_await, at_stop}

-- whether this record's step can be taken: a station at it is ready, wherever that is
abbrev pub goes : List ℕ → ListRecord → ℕ → Bool
goes σ e place = says_ready (readiness_at σ e place)

-- the variables and the position after a step of this kind
abbrev vars_by : List ℕ → List ℕ → ListRecord → ℕ → List ℕ
vars_by list σ e kind =
    if eqb kind AWAIT then body_run list (list_count list) e.t1 σ
    else if eqb kind SET then assigned σ e.own
    else σ

abbrev position_by : List ℕ → ListRecord → ℕ → ℕ
position_by σ e kind =
    if eqb kind AWAIT then e.t2
    else if among kind (IF ∷ WHILE ∷ []) then (if holds σ e.own then e.t1 else e.t2)
    else e.t1

-- so it is of a record of this kind
record By (list σ : List ℕ) (e : ListRecord) (kind : ℕ) : Type 0 where
  vars : step_vars list σ e ≡ vars_by list σ e kind
  position : step_position σ e ≡ position_by σ e kind

by : (list σ : List ℕ) (e : ListRecord) (kind : ℕ) → e.own.kind ≡ kind → By list σ e kind
unfolding step_vars step_position
by list σ e kind k = record { vars = ap (vars_by list σ e) k; position = ap (position_by σ e) k }

-- a record that is no STOP and no AWAIT goes, and one that is an AWAIT where its condition holds
plainly : (σ : List ℕ) (e : ListRecord) (place kind : ℕ) → e.own.kind ≡ kind → kind ≢ STOP → kind ≢ AWAIT → goes σ e place ≡ true
plainly σ e place kind k stop await = (ready_at_means σ e place).1 (λ s. stop (sym k ∙ s), λ a. absurd (await (sym k ∙ a)))

module _ (list : List ℕ) (means : ℕ → Program) (σ : List ℕ) (place : ℕ) where
  pub moves : {e : ListRecord} {S : Program} → Matches list means e S → goes σ e place ≡ true
      → ⟨ S ∣ σ ⟩⟶⟨ means (step_position σ e) ∣ step_vars list σ e ⟩
  moves {e} (at_skip {K = K} m) g = let b = by list σ e SKIP refl in rw (b.vars, b.position, m) (sequence_rule skip_rule K)
  moves {e} (at_assign {K = K} k m) g = let b = by list σ e SET k in rw (b.vars, b.position, m) (sequence_rule assign_rule K)
  moves {e} (at_if {r = r} {K = K} k m n) g =
      let b = by list σ e IF k in
      by_test (holds σ r) (λ f. rw (b.vars, b.position, f, m) (sequence_rule (if_true f) K))
      (λ f. rw (b.vars, b.position, f, n) (sequence_rule (if_false f) K))
  moves {e} (at_while {r = r} {S = S} {K = K} k m n) g =
      let b = by list σ e WHILE k in
      by_test (holds σ r)
      (λ f. rw (b.vars, b.position, f, m, ← grouped S (only (while_od r S)) K) (sequence_rule (while_true f) K))
      (λ f. rw (b.vars, b.position, f, n) (sequence_rule (while_false f) K))
  moves {e} (at_await {r = r} {K = K} k body m) g =
      let b = by list σ e AWAIT k in
      rw (b.vars, b.position, m) (sequence_rule (await_rule (body σ) (((ready_at_means σ e place).0 g).1 k)) K)
  moves {e} at_stop g = absurd (((ready_at_means σ e place).0 g).0 refl)

  pub halts : {e : ListRecord} {S : Program} → Matches list means e S → goes σ e place ≡ false → Disabled S σ
  halts {e} (at_skip m) g = never (plainly σ e place SKIP refl (λ k. omega arith) (λ k. omega arith)) g
  halts {e} (at_assign k m) g = never (plainly σ e place SET k (λ k. omega arith) (λ k. omega arith)) g
  halts {e} (at_if k m n) g = never (plainly σ e place IF k (λ k. omega arith) (λ k. omega arith)) g
  halts {e} (at_while k m n) g = never (plainly σ e place WHILE k (λ k. omega arith) (λ k. omega arith)) g
  halts {e} (at_await {r = r} k body m) g =
      by_test (holds σ r) (λ f. never ((ready_at_means σ e place).1 (λ s. omega arith, λ a. f)) g) waiting
  halts at_stop g = terminated
