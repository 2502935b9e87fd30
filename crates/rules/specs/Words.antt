-- The words that the rules are written with: a choice, a test at each of some places, tests in their order, bytes put into a buffer.
-- These are definitions. They assume nothing.
use Rattle.std.specs.Prelude.{ℕ, zero, suc, ◌+◌, ◌*◌, Bool, true, false, ◌&&◌, ◌||◌, List, [], ◌∷◌, ◌++◌, eqb, length, take, drop, if◌then◌else◌}

infix 20 ◌refuses◌at◌
-- the number is one of these
abbrev pub among : ℕ → List ℕ → Bool
among k [] = false
among k (x ∷ xs) = eqb k x || among k xs

-- the test holds at each of the places 0 to n-1
unfoldable pub each : (ℕ → Bool) → ℕ → Bool
each f zero = true
each f (suc n) = f 0 && each (λ i. f (suc i)) n

-- the first of the places 0 to n-1 at which the test holds; n where there is none
unfoldable pub first : (ℕ → Bool) → ℕ → ℕ
first f zero = 0
first f (suc n) = if f 0 then 0 else suc (first (λ i. f (suc i)) n)

-- at how many of the places 0 to n-1 the test holds
unfoldable pub tally : (ℕ → Bool) → ℕ → ℕ
tally f zero = 0
tally f (suc n) = let rest = tally (λ i. f (suc i)) n in if f 0 then suc rest else rest

-- the places 0 to n-1 at which the test holds, as a mask: place i is bit i
unfoldable pub mask : (ℕ → Bool) → ℕ → ℕ
mask f zero = 0
mask f (suc n) = (if f 0 then 1 else 0) + 2 * mask (λ i. f (suc i)) n

module _ {A : Type 0} where
  -- what the places 0 to n-1 hold
  unfoldable pub values : (ℕ → A) → ℕ → List A
  values f zero = []
  values f (suc n) = f 0 ∷ values (λ i. f (suc i)) n

  -- the first n entries changed, each by its place and what it held; the others stay
  unfoldable pub changed : (ℕ → A → A) → ℕ → List A → List A
  changed f zero xs = xs
  changed f (suc n) [] = []
  changed f (suc n) (x ∷ xs) = f 0 x ∷ changed (λ i. f (suc i)) n xs

-- what each entry is spelled by, one after another
unfoldable pub joined : {A : Type 0} → (A → List ℕ) → List A → List ℕ
joined spell [] = []
joined spell (x ∷ xs) = spell x ++ joined spell xs

-- the bytes put into a buffer at an offset; its other bytes stay
unfoldable pub written : List ℕ → ℕ → List ℕ → List ℕ
written buffer offset bytes = take offset buffer ++ (bytes ++ drop (offset + length bytes) buffer)

-- a number, 0 or a refusal's, and a record place
pub record Answer : Type 0 where
  pub number : ℕ
  pub place : ℕ

abbrev pub answer : ℕ → ℕ → Answer
answer number place = record { number = number; place = place }

-- a test that may refuse: where it holds, with this number, at this place
pub data Test : Type 0 where
  ◌refuses◌at◌ : Bool → ℕ → ℕ → Test

-- tests are made in order, and the first that holds gives the answer
unfoldable pub judge : List Test → Answer
judge [] = record { number = 0; place = 0 }
judge ((holds refuses number at place) ∷ tests) = if holds then record { number = number; place = place } else judge tests

-- the number alone
abbrev pub refusal : List Test → ℕ
refusal tests = (judge tests).number
