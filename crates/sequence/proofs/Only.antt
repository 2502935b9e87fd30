-- No second answer meets the promise of `check`. Assumes nothing.
use mathlib.Core.Path.{◌≡◌, sym, ap, ◌∙◌}
use mathlib.Core.List.{List}
use Prim.Native.Nat.{ℕ}
use Rattle.rules.specs.Words.{Answer}
use Rattle.sequence.specs.declared.Checked.{Checked}
use Rattle.sequence.specs.Promises.{CheckPromise}

abbrev as_checked : Answer → Checked
as_checked a = record { number = a.number; place = a.place }

pub check_only : (file : List ℕ) (r s : Checked) → CheckPromise file r → CheckPromise file s → r ≡ s
check_only file r s p q = ap as_checked (p ∙ sym q)
