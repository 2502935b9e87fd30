-- What every history keeps: the last state answered is the top of the stack, START and STEP made the stack, the log opens with its records,
-- and the kept places up to the steps that stand hold its states. Assumes nothing.
use Rattle.std.specs.Prelude.{if◌then◌else◌}
use mathlib.Core.Path.{◌≡◌, refl, sym, ap, subst, ◌∙◌}
use mathlib.Core.List.{List, [], ◌∷◌, ◌++◌, append_assoc}
use mathlib.Core.Option.{Option, none, some}
use Prim.Native.Nat.{ℕ, zero, suc, ◌+◌, ◌*◌, ◌≤◌}
use native.Mathlib.Omega.{arith}
use borrow.Author.Tests.{eqb-true}
use lib.Dec.{eqb}
use lib.ListN.{length, drop}
use Rattle.rules.specs.Words.{written}
use Rattle.rules.specs.Names.{kept_every}
use Rattle.rules.specs.Records.{Pick, pick_at, pick_bytes}
use Rattle.rules.specs.State.{State}
use Rattle.rules.specs.Lent.{Lent}
use Rattle.rules.specs.Kept.{keep}
use Rattle.rules.specs.Start.{start, start_records}
use Rattle.rules.specs.Step.{step}
use Rattle.rules.specs.Undo.{undo_from_start, undo}
use Rattle.laws.proofs.Choice.{by_test}
use Rattle.laws.specs.Passed.{Known, KeptRoom}
use Rattle.laws.proofs.Answers.{start_can, start_written, start_leaves, step_written, step_refused, step_leaves}
use Rattle.kept.proofs.Keep.{keep_keeps, keep_long}
use Rattle.rules.specs.Calls.{ruled}
use Rattle.rules.specs.History.{Call, CHECK, BUILD, START, STEP, RUN, UNDO, LIGHTS, Steps, begun, taken, top, height, state_at, spelled, pushed, popped, Now, stepped_on, single_steps, called, calls_from, history}
use Rattle.history.specs.Back.{Made, by_start, by_step, below, KeptAll}
use Rattle.laws.proofs.Written.{written_behind}
use Rattle.history.proofs.Calls.{run_single}
use Rattle.history.proofs.Stack.{at_top, at_below, stack_facts}
use Rattle.history.proofs.Undone.{undo_made, from_start_made}

-- of a state, what is lent and the steps that stand
pub record Follows (list : List ℕ) (s : State) (lent : Lent) (steps : Steps) : Type 0 where
  pub last : s ≡ top steps
  pub made : Made ruled list steps
  pub rest : List ℕ
  pub logged : lent.log ≡ spelled steps ++ rest
  pub kept_room : KeptRoom lent
  pub kept : KeptAll lent.kept steps

-- the same where a start stands
abbrev Follows-if : List ℕ → State → Lent → Option Steps → Type 0
Follows-if list s lent none = Unit
Follows-if list s lent (some steps) = Follows list s lent steps

abbrev Follows-now : List ℕ → Now → Type 0
Follows-now list now = Follows-if list now.state now.lent now.standing

step_follows : (list : List ℕ) (s : State) (lent : Lent) (p : Pick) → (step list s lent p).number ≡ 0 → (standing : Option Steps)
    → Follows-if list s lent standing
    → Follows-if list (step list s lent p).state (step list s lent p).lent (pushed standing p (step list s lent p).state)
unfolding spelled
step_follows list s lent p h none f = tt
step_follows list s lent p h (some steps) f =
    let m = rw f.last at h in
    let at = (stack_facts list f.made).bytes in
    let after = (step list s lent p).state in
    let made : Made ruled list (taken steps p after) = rw f.last (by_step p lent f.made m) in
    let facts = stack_facts list made in
    let known : Known list after = record { of_list = facts.of_list; of_state = facts.sound } in
    let kept : (step list s lent p).lent.kept ≡ keep lent.kept after = ap (λ (l : Lent). l.kept) (step_written list s lent p h) in
    record {
      last = refl;
      made = made;
      rest = drop 2 f.rest;
      logged = ap (λ (l : Lent). l.log) (step_written list s lent p h) ∙ rw (f.last, f.logged, append_assoc) (written_behind (spelled steps) f.rest (pick_bytes p) _ at);
      kept_room = rw (kept, keep_long list lent.kept after facts.held known f.kept_room) f.kept_room;
      kept = λ j from l.
          rw kept
          (keep_keeps list lent.kept after facts.held known (omega (arith, facts.counted)) f.kept_room j from (state_at (taken steps p after) (kept_every * j))
          (λ e.
          let all : kept_every * j ≡ suc (height steps) = omega (arith, facts.counted) in
          rw all (at_top (taken steps p after)))
          (λ e.
          let fewer : kept_every * j ≤ height steps = omega (arith, facts.counted, e) in
          rw (at_below steps p after (kept_every * j) fewer) (f.kept j from fewer)));
    }

stepped_on_follows : (list : List ℕ) (now : Now) (p : Pick) → Follows-now list now → Follows-now list (stepped_on ruled list now p)
unfolding stepped_on
stepped_on_follows list now p f =
    let a = step list now.state now.lent p in
    by_test (eqb a.number 0)
    (λ y. rw y (step_follows list now.state now.lent p (eqb-true _ 0 y) now.standing f))
    (λ y. rw (y, step_refused list now.state now.lent p y, step_leaves list now.state now.lent p y) f)

single_steps_follow : (list picks : List ℕ) (i count : ℕ) (now : Now) → Follows-now list now
    → Follows-now list (single_steps ruled list picks i count now)
unfolding single_steps
single_steps_follow list picks i zero now f = f
single_steps_follow list picks i (suc count) now f =
    single_steps_follow list picks (suc i) count (stepped_on ruled list now (pick_at picks i)) (stepped_on_follows list now (pick_at picks i) f)

start_follows : (list : List ℕ) (b : ℕ) (resets : List ℕ) (lent : Lent) (h : (start list b resets lent).number ≡ 0)
    → Follows list (start list b resets lent).state (start list b resets lent).lent (begun b resets (start list b resets lent).state)
unfolding spelled written
start_follows list b resets lent h =
    record {
      last = refl;
      made = by_start b resets lent h;
      rest = drop (0 + length (start_records 0 resets)) lent.log;
      logged = ap (λ (l : Lent). l.log) (start_written list b resets lent h);
      kept_room = rw (start_written list b resets lent h) (start_can list b resets lent h).kept_room;
      kept = λ j from l. absurd (omega arith);
    }

-- undo answers the state below
pub undo_answers : (list : List ℕ) (s : State) (lent : Lent) (steps : Steps) → Follows list s lent steps → undo list s lent ≡ below steps
undo_answers list s lent steps f = rw f.last (undo_made list lent f.rest f.made f.logged f.kept_room f.kept)

-- and so does document 01's
pub from_start_answers : (list : List ℕ) (s : State) (lent : Lent) (steps : Steps) → Follows list s lent steps
    → undo_from_start list s lent ≡ below steps
from_start_answers list s lent steps f = rw f.last (from_start_made list lent f.rest f.made f.logged)

made_below : {list : List ℕ} {steps : Steps} {p : Pick} {s : State} → Made ruled list (taken steps p s) → Made ruled list steps
made_below (by_step p lent made h) = made

undo_follows : (list : List ℕ) (s : State) (lent : Lent) (standing : Option Steps) → Follows-if list s lent standing
    → let a = undo list s lent in
    Follows-if list a.state lent (if eqb a.number 0 then popped standing else standing)
unfolding spelled
undo_follows list s lent none f = by_test (eqb (undo list s lent).number 0) (λ y. rw y tt) (λ y. rw y tt)
undo_follows list s lent (some (begun b resets t)) f =
    rw (undo_answers list s lent (begun b resets t) f)
    (record { last = refl; made = f.made; rest = f.rest; logged = f.logged; kept_room = f.kept_room; kept = f.kept })
undo_follows list s lent (some (taken steps p t)) f =
    rw (undo_answers list s lent (taken steps p t) f)
    (record {
      last = refl;
      made = made_below f.made;
      rest = pick_bytes p ++ f.rest;
      logged = f.logged ∙ append_assoc (spelled steps) (pick_bytes p) f.rest;
      kept_room = f.kept_room;
      kept = λ j from l. rw (at_below steps p t (kept_every * j) l) at (f.kept j from (omega arith));
    })

called_follows : (list : List ℕ) (now : Now) (c : Call) → Follows-now list now → Follows-now list (called ruled list now c)
unfolding called
called_follows list now (CHECK file) f = f
called_follows list now (BUILD file buffer) f = f
called_follows list now (START b resets) f =
    by_test (eqb (start list b resets now.lent).number 0)
    (λ y. rw y (start_follows list b resets now.lent (eqb-true _ 0 y)))
    (λ y. rw (y, start_leaves list b resets now.lent y) f)
called_follows list now (STEP p) f = stepped_on_follows list now p f
called_follows list now (RUN picks most) f =
    subst (λ (after : Now). Follows-now list after) (sym (run_single list now picks most).0) (single_steps_follow list picks 0 _ now f)
called_follows list now UNDO f = undo_follows list now.state now.lent now.standing f
called_follows list now LIGHTS f = f

calls_follow : (list : List ℕ) (now : Now) (calls : List Call) → Follows-now list now → Follows-now list (calls_from ruled list now calls)
unfolding calls_from
calls_follow list now [] f = f
calls_follow list now (c ∷ calls) f = calls_follow list (called ruled list now c) calls (called_follows list now c f)

pub history_follows : (list : List ℕ) (s : State) (lent : Lent) (calls : List Call) (steps : Steps)
    → (history ruled list s lent calls).standing ≡ some steps
    → Follows list (history ruled list s lent calls).state (history ruled list s lent calls).lent steps
history_follows list s lent calls steps stands =
    subst (λ (o : Option Steps). Follows-if list (history ruled list s lent calls).state (history ruled list s lent calls).lent o) stands
    (calls_follow list (record { state = s; lent = lent; standing = none }) calls tt)
