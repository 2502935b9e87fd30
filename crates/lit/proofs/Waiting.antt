-- A waiting station lights the variables of its condition as read and none as written, since its own record is all that it shows. The theorem
-- stands at the end. Assumes nothing.
use mathlib.Core.Path.{◌≡◌, sym, ◌∙◌}
use mathlib.Core.Logic.{◌↔◌, inl, inr, ⊎_elim}
use mathlib.Core.Bool.{Bool, true, false, false≢true, or-true}
use mathlib.Core.List.{List, []}
use Prim.Native.Nat.{ℕ, ◌<◌}
use borrow.Author.Tests.{eqb-true, eq-eqb, leb-true, le-leb}
use lib.Dec.{eqb, leb}
use lib.ListN.{get_or}
use Rattle.rules.specs.Names.{AWAIT}
use Rattle.rules.specs.Records.{Record}
use Rattle.rules.specs.State.{State}
use Rattle.rules.specs.Ready.{next_step, waiting}
use Rattle.rules.specs.Lights.{reads, writes, Lights}
use Rattle.rules.specs.Calls.{ruled}
use Rattle.laws.proofs.Choice.{by_test, both_left, both_right}
use Rattle.laws.proofs.Ready.{readiness_tells, ready_alone}
use Rattle.lit.specs.Lit.{bit, Touches, by_itself, by_body, Shows, AsksOf, LitAsWaiting, WaitingLit}
use Rattle.lit.proofs.Shown.{lights_show}

-- the record of an AWAIT reads what its condition asks of, and writes nothing
await_reads : (r : Record) → r.kind ≡ AWAIT → (v : ℕ) → (reads v r ≡ true) ↔ AsksOf r v
unfolding reads
await_reads r is v = (
  λ h.
      by_test (eqb r.b v) (λ e. inl (eqb-true r.b v e))
      (λ e. let rest = rw (is, e) at h in
      inr (leb-true 4 r.op (both_left (leb 4 r.op) _ rest), eqb-true r.k v (both_right (leb 4 r.op) _ rest))),
  ⊎_elim (λ e. rw (is, eq-eqb r.b v e)) (λ e. rw (is, le-leb 4 r.op e.0, eq-eqb r.k v e.1, or-true)),
)

await_writes : (r : Record) → r.kind ≡ AWAIT → (v : ℕ) → writes v r ≡ false
unfolding writes
await_writes r is v = rw is

-- a waiting station of the list, in an answer that shows the state
module _ (list : List ℕ) (s : State) (a : Lights) (shown : Shows list s a) (j : ℕ) (within : j < s.n) (waits : waiting list s j ≡ true) where
  -- touches what its own record does
  itself : (does : Record → Bool) → Touches does list s j → does (next_step list s j).own ≡ true
  itself does (by_itself so) = so
  itself does (by_body is goes reached so) = absurd (false≢true (sym (ready_alone list s j within goes).1 ∙ waits))

  pub lit_as_waiting : LitAsWaiting list s a j
  lit_as_waiting =
      let r = (next_step list s j).own in
      let is = (((readiness_tells list s).of_station j within).waiting_when.0 waits).0 in
      record {
        at_await = is;
        reads_condition = λ v l. (
          λ h. (await_reads r is v).0 (itself (reads v) ((shown.on_reads.marks v l j).0 h).1),
          λ h. (shown.on_reads.marks v l j).1 (within, by_itself ((await_reads r is v).1 h)),
        );
        writes_none = λ v l.
            by_test (bit (get_or (get_or a.rows 1 []) v 0) j)
            (λ h. absurd (false≢true (sym (await_writes r is v) ∙ itself (writes v) ((shown.on_writes.marks v l j).0 h).1)))
            (λ h. h);
      }

pub waiting_lit : WaitingLit ruled
waiting_lit list s answered = lit_as_waiting list s _ (lights_show list s answered)
