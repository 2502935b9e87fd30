-- A body's run by its records is the run of its statements to the end. By induction on the statements. Assumes nothing.
use mathlib.Core.Path.{◌≡◌, refl, ◌∙◌}
use mathlib.Core.Bool.{true}
use mathlib.Core.List.{List, ◌++◌}
use Prim.Native.Nat.{ℕ, zero, suc, ◌+◌, ◌≤◌}
use native.Mathlib.Omega.{arith}
use Rattle.rules.specs.Records.{ListRecord, list_record_at}
use Rattle.rules.specs.Values.{holds}
use Rattle.rules.specs.Trees.{Statements, size}
use Rattle.rules.specs.Build.{start_of, laid}
use Rattle.rules.specs.Move.{vars_after, target_after, body_run}
use Rattle.laws.proofs.Choice.{by_test}
use Rattle.reading.specs.Reading.{Some, Proper, end, skips, assigns, branches}
use Rattle.built.proofs.Along.{Along}
use Rattle.built.proofs.Standing.{apart}
use Rattle.built.proofs.Steps.{some_start}
use Rattle.language.specs.Language.{Program, E, ◌⨾◌, ⟨◌∣◌⟩⟶⟨◌∣◌⟩, skip_rule, assign_rule, if_true, if_false, sequence_rule, ⟨◌∣◌⟩⟶*⟨◌∣◌⟩, stay, and_then}
use Rattle.laws.proofs.Bodies.{body_leaves, body_goes}
use Rattle.language.specs.Rests.{program_of}
use Rattle.language.proofs.Sequence.{then_nothing}

join : {S T U : Program} {σ τ υ : List ℕ} → ⟨ S ∣ σ ⟩⟶*⟨ T ∣ τ ⟩ → ⟨ T ∣ τ ⟩⟶*⟨ U ∣ υ ⟩ → ⟨ S ∣ σ ⟩⟶*⟨ U ∣ υ ⟩
join stay e = e
join (and_then d ds) e = and_then d (join ds e)

module _ (list : List ℕ) where
  -- the record e is spelt at the place q
  abbrev pub Spelt : ℕ → ListRecord → Type 0
  Spelt q e = list_record_at list q ≡ e

  run_one : (c p : ℕ) (σ : List ℕ) (e : ListRecord) → 1 ≤ p → Spelt p e
      → body_run list (suc c) p σ ≡ body_run list c (target_after σ e) (vars_after σ e.own)
  run_one c p σ e l h = body_goes list c p σ (λ z. omega arith) ∙ rw h

  -- from a place with enough steps to go, the run comes to the exit with d of them left, as S comes to K
  record Runs (S K : Program) (σ : List ℕ) (c p d exit : ℕ) : Type 0 where
    after : List ℕ
    moves : ⟨ S ∣ σ ⟩⟶*⟨ K ∣ after ⟩
    left : ℕ
    enough : d ≤ left
    same : body_run list c p σ ≡ body_run list left exit after

  -- one step more before it
  run_before : {S T K : Program} {σ τ : List ℕ} {c p q o d exit : ℕ} → ⟨ S ∣ σ ⟩⟶⟨ T ∣ τ ⟩ → body_run list o q σ ≡ body_run list c p τ
      → Runs T K τ c p d exit → Runs S K σ o q d exit
  run_before m e r =
      record { after = r.after; moves = and_then m r.moves; left = r.left; enough = r.enough; same = e ∙ r.same }

  run_both : {S T K : Program} {σ : List ℕ} {c p d next exit f : ℕ} → (r : Runs S T σ c p f next)
      → Runs T K r.after r.left next d exit → Runs S K σ c p d exit
  run_both r s =
      record { after = s.after; moves = join r.moves s.moves; left = s.left; enough = s.enough; same = r.same ∙ s.same }

  module _ (station : ℕ) where
    runs : {t : Statements} → Proper true t → (K : Program) (σ : List ℕ) (c p d exit : ℕ) → 1 ≤ p → size t + d ≤ c
        → Along Spelt p (laid station 1 p exit t) → Runs (program_of t ⨾ K) K σ c (start_of p exit t) d exit
    unfolding laid size program_of
    runs end K σ c p d exit l n h = record { after = σ; moves = stay; left = c; enough = omega arith; same = refl }
    runs (skips k) K σ zero p d exit l n h = absurd (omega arith)
    runs (skips {rest = rest} k) K σ (suc c) p d exit l n h =
        run_before (sequence_rule skip_rule (program_of rest ⨾ K)) (run_one c p σ _ l h.0)
        (runs k K σ c (suc p) d exit (omega arith) (omega arith) h.1)
    runs (assigns e k) K σ zero p d exit l n h = absurd (omega arith)
    runs (assigns {rest = rest} e k) K σ (suc c) p d exit l n h =
        run_before (sequence_rule assign_rule (program_of rest ⨾ K)) (run_one c p σ _ l h.0 ∙ rw e)
        (runs k K _ c (suc p) d exit (omega arith) (omega arith) h.1)
    runs (branches e s i t j k) K σ zero p d exit l n h = absurd (omega arith)
    runs (branches {r = r} {x = x} {y = y} {rest = rest} e s i t j k) K σ (suc c) p d exit l n h =
        let at_y : ℕ = suc p + size x in
        let at_rest : ℕ = at_y + size y in
        let next : ℕ = start_of at_rest exit rest in
        let after : Program = program_of rest ⨾ K in
        let rs = laid station 1 at_rest exit rest in
        let hx = apart Spelt station 1 (suc p) next x (laid station 1 at_y next y ++ rs) h.1 in
        let hy = apart Spelt station 1 at_y next y rs hx.1 in
        let one = run_one c p σ _ l h.0 in
        by_test (holds σ r)
        (λ f. run_before (sequence_rule (if_true f) after) (one ∙ rw (f, e))
        (let u = runs i after σ c (suc p) (size rest + d) next (omega arith) (omega arith) hx.0 in
        run_both u (runs k K u.after u.left at_rest d exit (omega arith) u.enough hy.1)))
        (λ f. run_before (sequence_rule (if_false f) after) (one ∙ rw (f, e))
        (let u = runs j after σ c at_y (size rest + d) next (omega arith) (omega arith) hy.0 in
        run_both u (runs k K u.after u.left at_rest d exit (omega arith) u.enough hy.1)))

    -- a whole body, whose first step is at p: 0 leaves it
    pub body_ends : {t : Statements} → Some t → Proper true t → (c p : ℕ) → 1 ≤ p → size t ≤ c → Along Spelt p (laid station 1 p 0 t)
        → (σ : List ℕ) → ⟨ program_of t ∣ σ ⟩⟶*⟨ E ∣ body_run list c p σ ⟩
    body_ends {t} s k c p l n h σ =
        let r = rw (some_start t p 0 s) at (runs k E σ c p 0 0 l (omega arith) h) in
        rw (r.same, body_leaves list r.left r.after) (rw then_nothing at r.moves)
