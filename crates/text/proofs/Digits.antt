-- Numbers in decimal: the last digit apart from those before it, and how many digits there are at most. Assumes nothing.
use mathlib.Core.Path.{◌≡◌, sym}
use mathlib.Core.List.{[], ◌∷◌, ◌++◌}
use Prim.Native.Nat.{ℕ, zero, suc, ◌+◌, ◌/◌, ◌%◌, ◌^◌, ◌≤◌, ◌<◌}
use native.Mathlib.Nat.{div-lt_self, div-lt_iff_lt-mul, pow-suc, zero-lt-suc}
use native.Mathlib.Omega.{arith}
use lib.Dec.{ltb, lit<}
use lib.ListN.{length, length-append}
use Rattle.laws.proofs.Choice.{by_test}
use borrow.Author.Tests.{ltb-true, ltb-false, lt-ltb, le-ltb}
use Rattle.std.proofs.lemmas.Fmt.{decimal_by_steps}
use Rattle.std.specs.Fmt.{decimal as printed_decimal}
use Rattle.rules.specs.Trace.{decimal_digits, decimal}

-- one digit
pub digits_one : (most x : ℕ) → x < 10 → decimal_digits (suc most) x ≡ (48 + x) ∷ []
unfolding decimal_digits
digits_one most x small = rw (lt-ltb x 10 small, decimal_digits)

digits_more : (most x : ℕ) → 10 ≤ x → decimal_digits (suc most) x ≡ decimal_digits most (x / 10) ++ ((48 + x % 10) ∷ [])
unfolding decimal_digits
digits_more most x large = rw (le-ltb x 10 large, decimal_digits)

-- digits enough are enough
digits_enough : (a b x : ℕ) → x < a → x < b → decimal_digits a x ≡ decimal_digits b x
digits_enough zero b x h k = absurd (omega arith)
digits_enough (suc a) zero x h k = absurd (omega arith)
digits_enough (suc a) (suc b) x h k =
    by_test (ltb x 10) (λ yes. let small : x < 10 = ltb-true x 10 yes in rw (digits_one a x small, digits_one b x small))
    (λ no.
    let large : 10 ≤ x = ltb-false x 10 no in
    let less : x / 10 < x = div-lt_self (omega arith) (lit< tt) in
    rw (digits_more a x large, digits_more b x large, digits_enough a b (x / 10) (omega arith) (omega arith)))

-- the last digit, and those before it
pub decimal_more : (x : ℕ) → 10 ≤ x → decimal x ≡ decimal (x / 10) ++ ((48 + x % 10) ∷ [])
decimal_more x large =
    let less : x / 10 < x = div-lt_self (omega arith) (lit< tt) in
    rw (digits_more x x large, digits_enough x (suc (x / 10)) (x / 10) less (omega arith))

-- what `{}` prints of a number is its digits
pub printed : (x : ℕ) → x < 2 ^ 64 → printed_decimal x ≡ decimal x
printed = decimal_by_steps (λ x ds. ds ≡ decimal x) (λ x small. sym (digits_one x x small))
    (λ x ds large front. rw (front, decimal_more x large))

-- below 10 ^ k there are at most k digits
pub length_decimal : (k x : ℕ) → x < 10 ^ suc k → length (decimal x) ≤ suc k
length_decimal zero x below = rw (digits_one x x below) (omega arith)
length_decimal (suc k) x below =
    by_test (ltb x 10) (λ yes. rw (digits_one x x (ltb-true x 10 yes)) (omega arith))
    (λ no.
    let front : x / 10 < 10 ^ suc k = (div-lt_iff_lt-mul (zero-lt-suc 9)).1 (rw pow-suc at below) in
    let fewer = length_decimal k (x / 10) front in
    rw (decimal_more x (ltb-false x 10 no), length-append) (omega arith))
