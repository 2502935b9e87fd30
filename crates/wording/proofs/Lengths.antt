-- How long what is said of a station is at most. Assumes nothing.
use Prim.Native.Nat.{ℕ, ◌≤◌, ◌<◌}
use native.Mathlib.Omega.{arith}
use lib.ListN.{length, length-append, get_or}
use Rattle.rules.specs.Why.{Why}
use Rattle.text.proofs.Digits.{length_decimal}
use Rattle.wording.specs.Wording.{ascii, shown, waits_for_one, waits_for_two}

-- a variable and its value
pub length_shown : (variable value : ℕ) → variable < 256 → value < 4294967296 → length (shown variable value) ≤ 18
unfolding shown ascii
length_shown variable value byte word =
    let v = length_decimal 2 variable (omega arith) in
    let x = length_decimal 9 value (omega arith) in
    simp length-append (omega arith)

-- where a station waits, with one variable
pub length_one : (w : Why) → w.place < 65536 → length (shown (get_or w.variables 0 0) (get_or w.values 0 0)) ≤ 18
    → length (waits_for_one w) ≤ 42
unfolding waits_for_one ascii
length_one w half one =
    let p = length_decimal 4 w.place (omega arith) in
    simp length-append (omega arith)

-- with two
pub length_two : (w : Why) → length (waits_for_one w) ≤ 42 → length (shown (get_or w.variables 1 0) (get_or w.values 1 0)) ≤ 18
    → length (waits_for_two w) ≤ 62
unfolding waits_for_two ascii
length_two w one two = simp length-append (omega arith)
