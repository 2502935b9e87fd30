-- What a state that is reached leaves in the kept places. Assumes nothing.
use mathlib.Core.Path.{◌≡◌}
use mathlib.Core.List.{List}
use Prim.Native.Nat.{ℕ, ◌*◌, ◌/◌, ◌%◌, ◌≤◌}
use native.Mathlib.Omega.{arith}
use borrow.Author.Tests.{eqb-true, eqb-false}
use lib.Dec.{eqb}
use lib.ListN.{length}
use Rattle.rules.specs.Names.{max_kept, kept_every, kept_length}
use Rattle.rules.specs.State.{State}
use Rattle.rules.specs.Kept.{kept_offset, encoded, keep}
use Rattle.laws.specs.Passed.{Known}
use Rattle.laws.proofs.Choice.{by_test}
use Rattle.laws.proofs.Sound.{sound_means}
use Rattle.laws.proofs.Written.{length_written}
use Rattle.kept.specs.Keeps.{HasPlace, KeepKeeps, KeepLong}
use Rattle.kept.proofs.Back.{length_encoded, kept_back}
use Rattle.kept.proofs.Elsewhere.{kept_elsewhere}

-- 64 kept states have room for that of any sound state
has_place : (list kept : List ℕ) (s : State) → Known list s → kept_length * max_kept ≤ length kept → HasPlace kept (s.m / kept_every)
has_place list kept s known room = let few = ((sound_means list s).0 known.of_state).few_steps in omega arith

pub keep_keeps : KeepKeeps
unfolding keep
keep_keeps list kept s held known some room j from t reached other =
    let here = has_place list kept s known room in
    by_test (eqb (s.m % kept_every) 0)
    (λ y.
    let whole = eqb-true (s.m % kept_every) 0 y in
    by_test (eqb s.m (kept_every * j))
    (λ e.
    let m = eqb-true s.m (kept_every * j) e in
    let at : s.m / kept_every ≡ j = omega arith in
    rw (y, at, reached m) (kept_back list kept s j held known (rw at at here)))
    (λ e.
    let m = eqb-false s.m (kept_every * j) e in
    rw y (kept_elsewhere kept s t j (s.m / kept_every) held here from (omega arith) (λ z. m (omega arith)) (other m))))
    (λ y.
    let part = eqb-false (s.m % kept_every) 0 y in
    rw y (other (λ e. part (omega arith))))

pub keep_long : KeepLong
unfolding keep
keep_long list kept s held known room =
    let here = has_place list kept s known room in
    let long = length_encoded s held in
    by_test (eqb (s.m % kept_every) 0)
    (λ y. rw y (length_written kept (kept_offset (s.m / kept_every)) (encoded s) (omega arith)))
    (λ y. rw y)
