-- FAIR's two bounds over standing steps. The second is that of the counts: a station's count is how often it was passed over since its last
-- pick, and no sound state has a count above B+n-1. Assumes nothing.
use mathlib.Core.Path.{◌≡◌, refl, ◌∙◌}
use mathlib.Core.Bool.{true}
use mathlib.Core.List.{List}
use Prim.Native.Nat.{ℕ, zero, suc, ◌+◌, ◌≤◌, ◌<◌}
use native.Mathlib.Nat.{not-suc-le-zero}
use native.Mathlib.Omega.{arith}
use borrow.Author.Tests.{leb-true, eqb-true, eqb-false, ne_eqb}
use lib.Dec.{eqb}
use Rattle.rules.specs.List.{stations}
use Rattle.rules.specs.State.{State, few_low}
use Rattle.rules.specs.Ready.{ready}
use Rattle.rules.specs.Calls.{ruled}
use Rattle.rules.specs.History.{Steps, begun, taken, top, start_b}
use Rattle.rules.specs.Passed.{passed_over, since_pick, Unpicked}
use Rattle.laws.proofs.Choice.{by_test}
use Rattle.laws.proofs.Sound.{sound_means}
use Rattle.laws.proofs.Answers.{start_state}
use Rattle.fair.proofs.Kept.{count_bound}
use Rattle.fair.proofs.Begun.{start_count}
use Rattle.fair.proofs.Relation.{step_counts}
use Rattle.history.specs.Back.{Made, by_start, by_step}
use Rattle.history.specs.Passed.{Lower, whole, under, FewLow, CountsPassed, FewCounted, PassedOver}
use Rattle.history.proofs.Stack.{stack_facts}
use Rattle.history.proofs.Follows.{history_follows}

-- a station's count is how often it was passed over since its last pick, or since the start: step by step
counts_made : (list : List ℕ) {steps : Steps} → Made ruled list steps → CountsPassed list (top steps) steps
unfolding passed_over since_pick
counts_made list (by_start b resets lent h) j l = rw (start_state list b resets lent h) (start_count list b resets j)
counts_made list (by_step {steps} p lent made h) j l =
    let s = top steps in
    let f = stack_facts list made in
    let there : j < s.n = omega (arith, f.stations_are) in
    let c = step_counts list s lent p f.held h in
    let was = counts_made list made j l in
    by_test (eqb j p.station)
    (λ e. rw (e, eqb-true j p.station e) c.picked)
    (λ e. by_test (ready list s j)
    (λ r. rw (e, r, e) (c.passed j there (eqb-false j p.station e) r ∙ rw was (omega arith)))
    (λ r. rw (e, r) (c.stays j there (eqb-false j p.station e) r ∙ rw was (omega arith))))

-- no stretch without a pick has more than there are since the last pick
stretch : (list : List ℕ) (j : ℕ) (steps : Steps) (k : ℕ) → Unpicked j steps k
    → passed_over list j steps k ≤ passed_over list j steps (since_pick j steps)
unfolding passed_over since_pick
stretch list j (begun b resets s) zero u = omega arith
stretch list j (taken steps p s) zero u = omega arith
stretch list j (begun b resets s) (suc k) u = omega arith
stretch list j (taken steps p s) (suc k) u =
    let h = stretch list j steps k u.1 in
    let other = ne_eqb j p.station u.0 in
    rw (other, other) (omega arith)

few : (list : List ℕ) (s : State) → s.n ≡ stations list → ((i : ℕ) → i < s.n → few_low s (suc i) ≡ true) → FewLow list s
unfolding few_low
few list s n h zero one within = absurd (not-suc-le-zero one)
few list s n h (suc i) one within = rw n at (leb-true _ s.n (h i (omega arith)))

-- what is left of a stack that START and STEP made is one too, with the same start
made_part : {list : List ℕ} {part steps : Steps} → Lower part steps → Made ruled list steps → (start_b part ≡ start_b steps) × Made ruled list part
made_part whole made = (refl, made)
made_part (under part) (by_step p lent made h) = made_part part made

low : (list : List ℕ) {steps : Steps} → Made ruled list steps → FewLow list (top steps)
low list {steps} made =
    let f = stack_facts list made in
    few list (top steps) f.stations_are ((sound_means list (top steps)).0 f.sound).few

few_made : (list : List ℕ) {steps : Steps} → Made ruled list steps → FewCounted list (start_b steps) (top steps)
few_made list {steps} made j l =
    let f = stack_facts list made in
    let s = top steps in
    let there : j < s.n = omega (arith, f.stations_are) in
    omega (arith, f.stations_are, f.b_is, count_bound list s f.sound j there)

-- the count is what was passed over, and it is bounded
passed : (list : List ℕ) {steps : Steps} → Made ruled list steps → (j : ℕ) → j < stations list → (k : ℕ) → Unpicked j steps k
    → passed_over list j steps k + 1 ≤ start_b steps + stations list
passed list {steps} made j l k u = omega (arith, stretch list j steps k u, counts_made list made j l, few_made list made j l)

pub passed_over_bound : PassedOver ruled
passed_over_bound list s lent calls steps stands =
    let f = history_follows list s lent calls steps stands in
    record {
      few_low = rw f.last (low list f.made);
      few_low_standing = λ part p. low list (made_part p f.made).1;
      counts = rw f.last (counts_made list f.made);
      counts_standing = λ part p. counts_made list (made_part p f.made).1;
      few_counted = rw f.last (few_made list f.made);
      few_counted_standing = λ part p. let m = made_part p f.made in rw (← m.0) (few_made list m.1);
      few_passed = λ part p j l k u. let m = made_part p f.made in rw (← m.0) (passed list m.1 j l k u);
    }
