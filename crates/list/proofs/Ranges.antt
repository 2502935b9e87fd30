-- What chains over a range of places answer, in the words of the rules. Assumes nothing.
use Rattle.std.proofs.Common.{Option, Some, None, MatchOption, unwrap_or}
use mathlib.Core.Path.{◌≡◌, refl, sym, ap, ◌∙◌}
use mathlib.Core.Bool.{Bool, true, false}
use Prim.Native.Nat.{ℕ, zero, suc, ◌+◌, ◌-◌, ◌≤◌, ◌<◌, max, zero-le}
use native.Mathlib.Omega.{arith}
use Rattle.rules.specs.Words.{first}
use Rattle.laws.proofs.Places.{first_is, first_none}
use Rattle.laws.proofs.From.{first_from, first_from_none}

-- what `find` answers: the first place from the start on, below the end, at which the test holds
abbrev pub Found : (ℕ → Bool) → ℕ → ℕ → Option ℕ → Type 0
Found f start end r =
    MatchOption r ((k : ℕ) → start ≤ k → k < end → f k ≡ false)
    (λ i. (start ≤ i) × (i < end) × (f i ≡ true) × ((k : ℕ) → start ≤ k → k < i → f k ≡ false))

pub first_or_end : (f : ℕ → Bool) (n : ℕ) (r : Option ℕ) → Found f 0 n r → unwrap_or r n ≡ first f n
first_or_end f n None none = sym (first_none f n (λ k l. none k zero-le l))
first_or_end f n (Some i) (above, within, holds, before) = sym (first_is f n i within holds (λ k l. before k zero-le l))

pub first_or_past : (f : ℕ → Bool) (start end : ℕ) (r : Option ℕ) → Found f start end r
    → unwrap_or r (max start end) ≡ start + first (λ i. f (start + i)) (end - start)
first_or_past f start end None none =
    first_from_none f start end (max start end) (omega arith) (omega arith) (λ k l above. none k above (omega arith))
first_or_past f start end (Some i) (above, within, holds, before) =
    first_from f start end i above within holds (λ k l from. before k from l)
