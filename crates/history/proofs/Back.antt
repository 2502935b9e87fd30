-- Undo after any history on which a start stands. Assumes nothing.
use mathlib.Core.Path.{◌≡◌, sym, ap, ◌∙◌}
use mathlib.Core.Logic.{◌≢◌}
use mathlib.Core.List.{List}
use Prim.Native.Nat.{ℕ, suc, ◌-◌}
use native.Mathlib.Omega.{arith}
use Rattle.rules.specs.Names.{ROOM, STATE, EMPTY, LOG}
use Rattle.rules.specs.State.{State}
use Rattle.rules.specs.Undo.{replayed}
use Rattle.rules.specs.Calls.{ruled}
use Rattle.rules.specs.History.{Steps, begun, taken, top, height, Now, history}
use Rattle.history.specs.Back.{below, Back, UndoBelow}
use Rattle.history.proofs.Stack.{at_top, stack_facts}
use Rattle.history.proofs.Follows.{Follows, undo_answers, from_start_answers, history_follows}

-- the only refusal there is
not_refused : (steps : Steps) (number : ℕ) → number ≢ 0 → number ≢ EMPTY → (below steps).number ≢ number
not_refused (begun b resets s) number some other e = other (sym e)
not_refused (taken steps p s) number some other e = some (sym e)

back : (list : List ℕ) (now : Now) (steps : Steps) → Follows list now.state now.lent steps → Back ruled list now steps
unfolding replayed
back list now steps f =
    let e = undo_answers list now.state now.lent steps f in
    let from_start = from_start_answers list now.state now.lent steps f in
    let facts = stack_facts list f.made in
    record {
      last = f.last;
      stations_are = rw f.last facts.stations_are;
      b_is = rw f.last facts.b_is;
      counted = rw f.last facts.counted;
      sound = rw f.last facts.sound;
      made = f.made;
      logged = (f.rest, f.logged);
      replays =
          let less : suc (top steps).m - 1 ≡ height steps = omega (arith, facts.counted) in
          rw (f.last, f.logged, less) (facts.replays f.rest (height steps) (omega arith) ∙ ap (λ (t : State). record { number = 0; state = t }) (at_top steps));
      kept_room = f.kept_room;
      kept = f.kept;
      undone = e;
      as_from_start = e ∙ sym from_start;
      never_room = rw e (not_refused steps ROOM (λ z. omega arith) (λ z. omega arith));
      never_state = rw e (not_refused steps STATE (λ z. omega arith) (λ z. omega arith));
      never_log = rw e (not_refused steps LOG (λ z. omega arith) (λ z. omega arith));
    }

pub undo_below : UndoBelow ruled
undo_below list s lent calls steps stands =
    back list (history ruled list s lent calls) steps (history_follows list s lent calls steps stands)
