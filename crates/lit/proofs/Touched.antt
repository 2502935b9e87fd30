-- What a next step touches by the rules' search of its body is what it touches by what is reached, on a sound list, of a station that
-- stands at an outside record of its own. Assumes nothing.
use mathlib.Core.Path.{◌≡◌, refl, sym}
use mathlib.Core.Logic.{◌↔◌}
use mathlib.Core.Bool.{Bool, true, false≢true, ◌&&◌, or-true}
use mathlib.Core.List.{List, [], ◌∷◌}
use Prim.Native.Nat.{ℕ}
use borrow.Author.Tests.{eqb-true, eq-eqb}
use lib.Dec.{eqb}
use Rattle.rules.specs.Words.{among}
use Rattle.rules.specs.Names.{AWAIT}
use Rattle.rules.specs.Records.{Record, list_record_at}
use Rattle.rules.specs.List.{outside, sound_list}
use Rattle.rules.specs.State.{State, position}
use Rattle.rules.specs.Ready.{next_step, ready}
use Rattle.rules.specs.Lights.{body, some_of, touches}
use Rattle.laws.proofs.Choice.{by_test, both_left, both_right}
use Rattle.lit.specs.Lit.{Touches, by_itself, by_body}
use Rattle.lit.proofs.Bodies.{await_body_is_reached}

-- some place of a list passes a test exactly when one is there that does
some_there : (f : ℕ → Bool) (ps : List ℕ) → some_of f ps ≡ true → (p : ℕ) × (among p ps ≡ true) × (f p ≡ true)
unfolding some_of
some_there f [] h = absurd (false≢true h)
some_there f (q ∷ ps) h =
    by_test (f q)
    (λ e. (q, rw (eq-eqb q q refl), e))
    (λ e. let (p, here, so) = some_there f ps (rw e at h) in (p, rw (here, or-true), so))

there_some : (f : ℕ → Bool) (ps : List ℕ) (p : ℕ) → among p ps ≡ true → f p ≡ true → some_of f ps ≡ true
unfolding some_of
there_some f [] p here so = absurd (false≢true here)
there_some f (q ∷ ps) p here so =
    by_test (eqb p q)
    (λ e. let same = eqb-true p q e in rw (sym same, so))
    (λ e. rw (there_some f ps p (rw e at here) so, or-true))

module _ (does : Record → Bool) (list : List ℕ) (s : State) (j : ℕ)
    (sound : sound_list list ≡ true) (stands : outside list j (position s j) ≡ true) where
  touched_so : touches does list s j ≡ true → Touches does list s j
  unfolding touches
  touched_so h =
      let step = next_step list s j in
      by_test (does step.own) by_itself
      (λ not_itself.
      let rest = rw not_itself at h in
      let opens = both_left (eqb step.own.kind AWAIT && ready list s j) _ rest in
      let await = both_left (eqb step.own.kind AWAIT) _ opens in
      let (p, here, so) = some_there _ (body list step.t1) (both_right (eqb step.own.kind AWAIT && ready list s j) _ rest) in
      by_body (eqb-true _ AWAIT await) (both_right (eqb step.own.kind AWAIT) _ opens)
      ((await_body_is_reached list sound j (position s j) stands await p).0 here) so)

  so_touched : Touches does list s j → touches does list s j ≡ true
  unfolding touches
  so_touched (by_itself so) = rw so
  so_touched (by_body {p} is goes reached so) =
      let step = next_step list s j in
      let await = eq-eqb step.own.kind AWAIT is in
      let here = (await_body_is_reached list sound j (position s j) stands await p).1 reached in
      rw (await, goes, there_some (λ q. does (list_record_at list q).own) (body list step.t1) p here so, or-true)

  pub touches_means : (touches does list s j ≡ true) ↔ Touches does list s j
  touches_means = (touched_so, so_touched)
