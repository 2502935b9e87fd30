-- A place that is answered where it lies below a count. Assumes nothing.
use Rattle.std.specs.Prelude.{if◌then◌else◌}
use Rattle.std.proofs.Common.{Option, Some, None}
use mathlib.Core.Path.{◌≡◌}
use Prim.Native.Nat.{ℕ, ◌≤◌, ◌<◌}
use native.Mathlib.Omega.{arith}
use lib.Dec.{ltb}
use borrow.Author.Tests.{ltb-true, ltb-false}
use Rattle.laws.proofs.Choice.{by_test}

abbrev pub below : ℕ → ℕ → Option ℕ
below n place = if ltb place n then Some place else None

pub some_below : (n p i : ℕ) → below n p ≡ Some i → (p ≡ i) × (i < n)
some_below n p i e =
    by_test (ltb p n)
    (λ l. let f = rw l at e in let same : p ≡ i = cc in (same, omega (arith, ltb-true p n l)))
    (λ l. let f = rw l at e in cc)

pub none_below : (n p : ℕ) → below n p ≡ None → n ≤ p
none_below n p e = by_test (ltb p n) (λ l. let f = rw l at e in cc) (λ l. ltb-false p n l)
