-- The state reached is the one that the calls of the trace lead to. Assumes nothing.
use mathlib.Core.Path.{◌≡◌, refl, sym, ap, ◌∙◌}
use mathlib.Core.Bool.{false, ◌&&◌, false≢true}
use mathlib.Core.List.{List, [], ◌∷◌}
use mathlib.Core.Option.{some}
use Prim.Native.Nat.{ℕ, zero, suc, ◌*◌, ◌/◌}
use borrow.Author.Tests.{eqb-true, eqb-false}
use lib.Dec.{eqb}
use lib.ListN.{length, take, replicate}
use Rattle.rules.specs.Names.{undo_station, max_list}
use Rattle.rules.specs.Records.{Pick, pick_at}
use Rattle.rules.specs.State.{zeros}
use Rattle.rules.specs.Build.{Built, build}
use Rattle.rules.specs.Start.{start}
use Rattle.rules.specs.Trace.{taken_pick, wrong_picks, own_buffers}
use Rattle.rules.specs.Calls.{ruled}
use Rattle.rules.specs.History.{START, begun, Now, stepped_on, called, calls_from, history, answered}
use Rattle.laws.proofs.Choice.{by_test}
use Rattle.tracing.specs.Tracing.{Opened, opened, opened_by, opened_list, opened_built}
use Rattle.tracing.specs.declared.Next.TheVariants.{Start}
use Rattle.reaching.specs.Reaching.{last_pick, stop, reached_after, reached}
use Rattle.reaching.specs.Claims.{call_of, Comes, no_more, goes_on, stops, LastCalls}
use Rattle.reaching.proofs.Ends.{begins}

-- a pick that is taken, and the call that it is
by_call : (list : List ℕ) (now : Now) (p : Pick)
    → let a = taken_pick list now.state now.lent p in
    let next = called ruled list now (call_of p) in
    (answered ruled list now (call_of p) ≡ a.number) × (next.state ≡ a.state) × (next.lent ≡ a.lent)
unfolding taken_pick called stepped_on
by_call list now p =
    by_test (eqb p.station undo_station && eqb p.reset 0) (λ undone. rw undone (refl, refl, refl)) (λ other. rw other (refl, refl, refl))

comes : (count : ℕ) (list picks : List ℕ) (i : ℕ) (now : Now)
    → let a = last_pick list picks i count now.state now.lent in
    (end : Now) × Comes list picks i count now a.number end × (a.state ≡ end.state)
unfolding last_pick
comes zero list picks i now = (now, no_more, refl)
comes (suc count) list picks i now =
    let p = pick_at picks i in
    let a = taken_pick list now.state now.lent p in
    let next = called ruled list now (call_of p) in
    let (number, state, lent) = by_call list now p in
    by_test (eqb a.number 0)
    (λ yes.
    let (end, more, same) = comes count list picks (suc i) next in
    rw (yes, ← state, ← lent) (end, goes_on (number ∙ eqb-true a.number 0 yes) more, same))
    (λ other.
    rw (other, ← number) (next, stops (λ e. eqb-false a.number 0 other (sym number ∙ e)), sym state))

-- of a trace that begins with its start
abbrev Leads : List ℕ → ℕ → List ℕ → Opened → Type 0
Leads picks b resets o =
    let r = reached o.list picks o.lent o.tracing in
    let list = take (16 * r.count) o.list in
    o.tracing.next ≡ Start → wrong_picks picks ≡ false
    → (end : Now) × Comes list picks 0 (length picks / 2) (history ruled list zeros own_buffers (START b resets ∷ []))
    (stop o.list picks o.lent o.tracing).number end × (r.state ≡ end.state)

started_leads : (count : ℕ) (list picks : List ℕ) (b : ℕ) (resets : List ℕ)
    → Leads picks b resets (opened_by count list (start (take (16 * count) list) b resets own_buffers))
unfolding stop reached_after calls_from called
started_leads count list picks b resets =
    let own = take (16 * count) list in
    let a = start own b resets own_buffers in
    let now : Now = record { state = a.state; lent = a.lent; standing = some (begun b resets a.state) } in
    by_test (eqb a.number 0)
    (λ yes. rw yes (λ at_start right. rw (yes, right) (comes (length picks / 2) own picks 0 now)))
    (λ no. rw no (λ at_start right. absurd (false≢true (ap begins at_start))))

built_leads : (a : Built) (picks : List ℕ) (b : ℕ) (resets : List ℕ) → Leads picks b resets (opened_built a (b ∷ resets) own_buffers)
unfolding opened_list
built_leads a picks b resets =
    by_test (eqb a.number 0)
    (λ yes. rw yes (started_leads a.count a.buffer picks b resets))
    (λ no. rw no (λ at_start right. absurd (false≢true (ap begins at_start))))

opened_leads : (program list picks : List ℕ) (b : ℕ) (resets : List ℕ) → Leads picks b resets (opened program (b ∷ resets) list own_buffers)
unfolding opened
opened_leads program list picks b resets = built_leads (build program list) picks b resets

pub last_calls : LastCalls
last_calls program b resets picks = opened_leads program (replicate (16 * max_list) 0) picks b resets
