-- One byte more than a file may have decides as much as the whole of it. Assumes nothing.
use Rattle.std.specs.Prelude.{if◌then◌else◌}
use mathlib.Core.Path.{◌≡◌, refl, sym, ◌∙◌, ap}
use mathlib.Core.Bool.{true, not, ◌||◌, or-true}
use mathlib.Core.List.{List, [], ◌∷◌, ◌++◌}
use Prim.Native.Nat.{ℕ, ◌+◌, ◌*◌, ◌%◌, ◌≤◌, ◌<◌}
use native.Mathlib.Omega.{arith}
use borrow.Author.Tests.{leb-true, leb-false, lt-ltb, ne_eqb}
use lib.Dec.{eqb, leb}
use lib.ListN.{length, take, replicate}
use lib.Seq.{take_all, length-take-le}
use Rattle.rules.specs.Words.{judge}
use Rattle.rules.specs.Names.{LENGTH, LIST, RESET, max_list, max_stations}
use Rattle.rules.specs.Check.{wrong_length}
use Rattle.rules.specs.State.{State}
use Rattle.rules.specs.Lent.{Lent}
use Rattle.rules.specs.List.{stations, sound_list}
use Rattle.rules.specs.Build.{Built, build}
use Rattle.rules.specs.Start.{start}
use Rattle.rules.specs.Trace.{own_buffers, end_line, line, wrong_picks, run_text, start_text, trace}
use Rattle.laws.proofs.Choice.{by_test}
use Rattle.laws.proofs.Sound.{few_stations}
use Rattle.sizes.specs.Sizes.{enough, enough_starts}
use Rattle.tracing.specs.Claims.{Enough}

-- what decides the same of a file of at most so many bytes, and of any that is longer, decides the same of its first so many
by_front : {A : Type 0} (f : List ℕ → A) (other : A) (most : ℕ) (file : List ℕ) → ((long : List ℕ) → most ≤ length long → f long ≡ other)
    → f (take most file) ≡ f file
by_front f other most file long =
    by_test (leb (length file) most) (λ yes. ap f (take_all most file (leb-true _ _ yes)))
    (λ no.
    let longer = leb-false (length file) most no in
    let whole = length-take-le most file (omega arith) in
    long (take most file) (omega arith) ∙ sym (long file (omega arith)))

-- picks
wrong_long : (picks : List ℕ) → enough ≤ length picks → wrong_picks picks ≡ true
wrong_long picks long = rw (lt-ltb 8192 (length picks) (omega arith)) (or-true (eqb (length picks % 2) 1))

run_front : (list picks : List ℕ) (s : State) (lent : Lent) → run_text list (take enough picks) s lent ≡ run_text list picks s lent
unfolding run_text
run_front list picks s lent =
    by_front (λ p. run_text list p s lent) (line list s ++ end_line LENGTH) enough picks (λ long h. rw (wrong_long long h))

-- a start
start_long : (list : List ℕ) (b : ℕ) (resets : List ℕ) (lent : Lent) → max_stations < length resets
    → (start list b resets lent).number ≡ (if sound_list list then RESET else LIST)
unfolding start judge
start_long list b resets lent long =
    by_test (sound_list list)
    (λ yes.
    let few = few_stations list yes in
    rw (yes, ne_eqb (length resets) (stations list) (λ e. omega arith)))
    (λ no. rw no)

-- what is printed after a start, where there is a B
abbrev started_text : List ℕ → ℕ → List ℕ → Lent → List ℕ → List ℕ
started_text list b picks lent resets =
    let a = start list b resets lent in
    if eqb a.number 0 then run_text list picks a.state a.lent else end_line a.number

started_front : (list : List ℕ) (b : ℕ) (resets picks : List ℕ) (lent : Lent)
    → started_text list b (take enough picks) lent (take (1 + max_stations) resets) ≡ started_text list b picks lent resets
started_front list b resets picks lent =
    let other = end_line (if sound_list list then RESET else LIST) in
    by_front (started_text list b (take enough picks) lent) other (1 + max_stations) resets
    (λ long h. rw (start_long list b long lent (omega arith)) (by_test (sound_list list) (λ yes. rw yes) (λ no. rw no)))
    ∙ (
    let a = start list b resets lent in
    by_test (eqb a.number 0) (λ yes. rw (yes, run_front list picks a.state a.lent)) (λ no. rw no)
    )

start_front : (list starts picks : List ℕ) → start_text list (take enough_starts starts) (take enough picks) ≡ start_text list starts picks
unfolding start_text
start_front list [] picks = refl
start_front list (b ∷ resets) picks = started_front list b resets picks own_buffers

-- a program
wrong_program : (program : List ℕ) → enough ≤ length program → wrong_length program ≡ true
unfolding wrong_length
wrong_program program long = rw (lt-ltb 8192 (length program) (omega arith)) (or-true (not (eqb (length program % 8) 0) || eqb (length program) 0))

build_long : (program buffer : List ℕ) → enough ≤ length program → (build program buffer).number ≡ LENGTH
unfolding build judge
build_long program buffer long = rw (wrong_program program long)

-- what is printed after a build
abbrev built_text : List ℕ → List ℕ → Built → List ℕ
built_text starts picks a =
    if eqb a.number 0 then start_text (take (16 * a.count) a.buffer) starts picks else end_line a.number

built_front : (starts picks : List ℕ) (a : Built)
    → built_text (take enough_starts starts) (take enough picks) a ≡ built_text starts picks a
built_front starts picks a =
    by_test (eqb a.number 0) (λ yes. rw (yes, start_front (take (16 * a.count) a.buffer) starts picks)) (λ no. rw no)

program_front : (starts picks program buffer : List ℕ)
    → built_text starts picks (build (take enough program) buffer) ≡ built_text starts picks (build program buffer)
program_front starts picks program buffer =
    by_front (λ p. built_text starts picks (build p buffer)) (end_line LENGTH) enough program (λ long h. rw (build_long long buffer h))

pub front_enough : Enough
unfolding trace
front_enough program starts picks =
    let room : List ℕ = replicate (16 * max_list) 0 in
    built_front starts picks (build (take enough program) room) ∙ program_front starts picks program room
