-- One turn of a loop that runs records: what is left to run from the next record on is what was left before it.
-- Assumes nothing.
use mathlib.Core.Path.{◌≡◌, refl}
use mathlib.Core.List.{List}
use Prim.Native.Nat.{ℕ, zero, suc, ◌+◌, ◌*◌, ◌≤◌}
use native.Mathlib.Omega.{arith}
use lib.ListN.{length, set, get_or, get_or-eq_default}
use lib.Seq.{set-set}
use Rattle.rules.specs.Records.{ListRecord, record_from, list_record_at}
use Rattle.rules.specs.Values.{set_value, assigned}
use Rattle.rules.specs.Start.{initial_run}
use Rattle.rules.specs.Move.{vars_after, target_after, body_run}
use Rattle.laws.proofs.Bodies.{body_goes}

-- a record of a body is run, with what the calls of a turn answer
pub body_turn :
    (list : List ℕ) (left place : ℕ) (vars : List ℕ) {more target : ℕ} {after : List ℕ} {e : ListRecord} →
    more ≡ suc left → (place ≡ 0 → ⊥) → e ≡ list_record_at list place →
    target ≡ target_after vars e → after ≡ vars_after vars e.own →
    body_run list left target after ≡ body_run list more place vars
body_turn list left place vars h n e t a = rw (h, body_goes list left place vars n, t, a, e)

-- an initial record is run, and the next one follows
pub initial_turn :
    (list : List ℕ) (left place : ℕ) (vars : List ℕ) {more next : ℕ} {after : List ℕ} {e : ListRecord} →
    more ≡ suc left → next ≡ suc place → e ≡ list_record_at list place → after ≡ assigned vars e.own →
    initial_run list next left after ≡ initial_run list place more vars
unfolding initial_run
initial_turn list left place vars h n e a = rw (h, n, a, e)

-- past the end of the list a record is zeros, which set variable 0 to 0
clears :
    (list : List ℕ) (place : ℕ) (vars : List ℕ) → length list ≤ place →
    assigned vars (list_record_at list place).own ≡ set vars 0 0
unfolding list_record_at record_from set_value
clears list place vars h =
    let zero : (k : ℕ) → 16 * place ≤ k → get_or list k 0 ≡ 0 = λ k l. get_or-eq_default list 0 (omega arith) in
    let at : ℕ → ℕ = λ k. 16 * place + k in
    rw (zero (at 1) (omega arith), zero (at 3) (omega arith), zero (at 4) (omega arith), zero (at 4 + 1) (omega arith), zero (at 4 + 2) (omega arith), zero (at 4 + 3) (omega arith))

-- so that the first of them does what any number of them does
past_run :
    (list : List ℕ) (left place : ℕ) (vars : List ℕ) → length list ≤ place →
    initial_run list place (suc left) vars ≡ assigned vars (list_record_at list place).own
unfolding initial_run
past_run list zero place vars h = refl
past_run list (suc left) place vars h =
    let after = assigned vars (list_record_at list place).own in
    rw (past_run list left (suc place) after (omega arith), clears list (suc place) after (omega arith), clears list place vars h)
    (set-set vars 0 0 0)

pub initial_past :
    (list : List ℕ) (left place : ℕ) (vars : List ℕ) {more : ℕ} {after : List ℕ} {e : ListRecord} →
    length list ≤ place → more ≡ suc left → e ≡ list_record_at list place → after ≡ assigned vars e.own →
    after ≡ initial_run list place more vars
initial_past list left place vars h m e a = rw (m, past_run list left place vars h, a, e)
