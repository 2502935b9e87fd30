-- What a turn of each loop does: a record more is laid, or an INIT record more. Assumes nothing.
use mathlib.Core.Path.{◌≡◌, ap, ◌∙◌}
use mathlib.Core.List.{List, ◌∷◌}
use Prim.Native.Nat.{ℕ, zero, suc, ◌-◌, ◌≤◌, ◌<◌}
use native.Mathlib.Nat.{not-suc-le-zero}
use native.Mathlib.Omega.{arith}
use lib.ListN.{length, get_or, drop, drop_of_length-le}
use lib.Seq.{drop-cons}
use Rattle.rules.specs.Words.{values}
use Rattle.rules.specs.Names.{INIT}
use Rattle.rules.specs.Records.{Record}
use Rattle.rules.specs.Build.{bare, listed}
use Rattle.laws.proofs.Places.{length_values, get_or_values}
use Rattle.layout.specs.Layout.{Laying}
use Rattle.laying.specs.Laid.{Laid, lay_record, lay_records, put_at, lay_inits}

-- from the last record to the first
pub laid_none :
    (loops : List ℕ) (f : ℕ → Record) (n : ℕ) (start : Laid) → start ≡ lay_records loops (drop n (values f n)) start
unfolding lay_records
laid_none loops f n start = rw (drop_of_length-le (values f n) {i = n} (omega (arith, length_values f n)))

drop_before :
    (rs : List Record) (i : ℕ) (r : Record) → 0 < i → i - 1 < length rs → drop (i - 1) rs ≡ get_or rs (i - 1) r ∷ drop i rs
drop_before rs i r some within =
    let again : suc (i - 1) ≡ i = omega arith in
    drop-cons rs (i - 1) r within ∙ ap (λ (k : ℕ). get_or rs (i - 1) r ∷ drop k rs) again

pub laid_before :
    (loops : List ℕ) (f : ℕ → Record) (n i : ℕ) (x start : Laid) (s : Laying) (buffer : List ℕ) → 0 < i → i ≤ n →
    x ≡ lay_records loops (drop i (values f n)) start →
    s ≡ (lay_record loops (f (i - 1)) x).state → buffer ≡ (lay_record loops (f (i - 1)) x).buffer →
    ◌≡◌ {A = Laid} (record { state = s; buffer = buffer }) (lay_records loops (drop (i - 1) (values f n)) start)
unfolding lay_record lay_records
laid_before loops f n i x start s buffer some within h a b =
    rw (
      drop_before (values f n) i (f 0) some (omega (arith, length_values f n)),
      get_or_values f n (i - 1) (f 0) (omega arith),
      ← h,
      a,
      b,
    )

-- from the last station to the first
pub init_before :
    (j : ℕ) (starts : List ℕ) (place : ℕ) (buffer : List ℕ) → 0 < j →
    lay_inits j starts place buffer
    ≡ lay_inits (j - 1) starts (place - 1)
    (put_at (place - 1) (listed (bare INIT (j - 1)) (j - 1) 0 (get_or starts (j - 1) 0) 0) buffer)
unfolding lay_inits
init_before zero starts place buffer h = absurd (not-suc-le-zero h)
init_before (suc j) starts place buffer h =
    let again : suc j - 1 ≡ j = omega arith in
    rw again
