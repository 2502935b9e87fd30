-- No second answer meets build's promise: the answer and the later contents of the lent buffer are what the rules say. Assumes nothing.
use mathlib.Core.Path.{◌≡◌, sym, ap, ◌∙◌}
use mathlib.Core.List.{List}
use Prim.Native.Nat.{ℕ}
use Rattle.rules.specs.Build as rules
use Rattle.build.specs.declared.Built.{Built}
use Rattle.build.specs.Promises.{BuildPromise}

pub build_only : (file buffer : List ℕ) (r s : Built) (after later : List ℕ) → BuildPromise file buffer r after
    → BuildPromise file buffer s later → (r ≡ s) × (after ≡ later)
build_only file buffer r s after later e f =
    let g = e ∙ sym f in
    let n = ap (λ (b : rules.Built). b.number) g in
    let p = ap (λ (b : rules.Built). b.place) g in
    let c = ap (λ (b : rules.Built). b.count) g in
    (λ i. record { number = n i; place = p i; count = c i }, ap (λ (b : rules.Built). b.buffer) g)
