-- List records that are right at their places: what the document's rules of a sound list say of each record, before it is bytes.
-- Assumes nothing.
use Rattle.std.specs.Prelude.{if◌then◌else◌}
use mathlib.Core.Path.{◌≡◌}
use mathlib.Core.Bool.{Bool, true, false}
use mathlib.Core.Logic.{◌⊎◌, inl, inr}
use mathlib.Core.List.{List}
use Prim.Native.Nat.{ℕ, suc, ◌+◌, ◌≤◌, ◌<◌, ◌^◌}
use native.Mathlib.Omega.{arith}
use lib.ListN.{length, get_or}
use Rattle.rules.specs.Names.{SKIP, SET, IF, WHILE, AWAIT, INIT, STOP, max_list}
use Rattle.rules.specs.Records.{Record, ListRecord}
use Rattle.rules.specs.Fields.{fields_right}
use Rattle.rules.specs.Build.{bare, listed, initial_record}
use Rattle.built.specs.Targets.{blank}
use Rattle.built.proofs.Bytes.{Fits}

-- byte 9: true is in a body
abbrev pub byte : Bool → ℕ
byte b = if b then 1 else 0

-- a record of the table, with a k of four bytes
pub record Good (r : Record) : Type 0 where
  pub fields : fields_right r ≡ true
  pub k : r.k < 2 ^ 32

-- a record of the initial part
pub data Initial : ListRecord → Type 0 where
  sets : {r : Record} → r.kind ≡ SET → Good r → Initial (initial_record r)

-- the records es: n INIT records, m initial records, and the later ones
module _ (es : List ListRecord) (n m : ℕ) where
  -- record t is a later one, of this station, with this byte 9
  pub record Names (inside station t : ℕ) : Type 0 where
    pub from : n + m ≤ t
    pub below : t < length es
    pub inside_is : (get_or es t blank).inside ≡ inside
    pub station_is : (get_or es t blank).station ≡ station

  -- outside bodies t is an outside record of the station; in one (true) it is 0, or an inside record of the station from the place p on
  abbrev pub Leads : Bool → ℕ → ℕ → ℕ → Type 0
  Leads false station p t = Names 0 station t
  Leads true station p t = (t ≡ 0) ⊎ ((p ≤ t) × Names 1 station t)

  -- the INIT record of station j
  pub data Init : ℕ → ListRecord → Type 0 where
    opens : {j t : ℕ} → Names 0 j t → Init j (listed (bare INIT j) j 0 t 0)

  -- a later record, at the place q
  pub data Later : ℕ → ListRecord → Type 0 where
    skip_right : (b : Bool) {q station t : ℕ} → station < n → Leads b station (suc q) t
        → Later q (listed (bare SKIP 0) station (byte b) t 0)
    set_right : (b : Bool) {q station t : ℕ} {r : Record} → station < n → r.kind ≡ SET → Good r → Leads b station (suc q) t
        → Later q (listed r station (byte b) t 0)
    if_right : (b : Bool) {q station t u : ℕ} {r : Record} → station < n → r.kind ≡ IF → Good r → Leads b station (suc q) t
        → Leads b station (suc q) u → Later q (listed r station (byte b) t u)
    while_right : {q station t u : ℕ} {r : Record} → station < n → r.kind ≡ WHILE → Good r → Names 0 station t → Names 0 station u
        → Later q (listed r station 0 t u)
    await_right : {q station u : ℕ} {r : Record} → station < n → r.kind ≡ AWAIT → Good r → Names 1 station (suc q) → Names 0 station u
        → Later q (listed r station 0 (suc q) u)
    stop_right : {q station : ℕ} → station < n → Later q (listed (bare STOP 0) station 0 0 0)

  -- record p is right at its place
  pub data Right : ℕ → ListRecord → Type 0 where
    as_init : {p : ℕ} {e : ListRecord} → p < n → Init p e → Right p e
    as_initial : {p : ℕ} {e : ListRecord} → n ≤ p → p < n + m → Initial e → Right p e
    as_later : {p : ℕ} {e : ListRecord} → n + m ≤ p → Later p e → Right p e

  -- each number of such a record fits into its bytes
  module _ (short : length es ≤ max_list) where
    leads_fits : (b : Bool) (station p t : ℕ) → Leads b station p t → t < 65536
    leads_fits false station p t h = omega (arith, h.below)
    leads_fits true station p t (inl e) = omega arith
    leads_fits true station p t (inr h) = omega (arith, h.1.below)

    later_fits : {q : ℕ} {e : ListRecord} → Later q e → Fits e
    later_fits (skip_right b {q} {station} {t} s h) =
        record { k = omega arith; t1 = leads_fits b station (suc q) t h; t2 = omega arith; spare = omega arith }
    later_fits (set_right b {q} {station} {t} s k g h) =
        record { k = g.k; t1 = leads_fits b station (suc q) t h; t2 = omega arith; spare = omega arith }
    later_fits (if_right b {q} {station} {t} {u} s k g h i) =
        record { k = g.k; t1 = leads_fits b station (suc q) t h; t2 = leads_fits b station (suc q) u i; spare = omega arith }
    later_fits (while_right s k g h i) =
        record { k = g.k; t1 = omega (arith, h.below); t2 = omega (arith, i.below); spare = omega arith }
    later_fits (await_right s k g h i) =
        record { k = g.k; t1 = omega (arith, h.below); t2 = omega (arith, i.below); spare = omega arith }
    later_fits (stop_right s) = record { k = omega arith; t1 = omega arith; t2 = omega arith; spare = omega arith }

    pub right_fits : {p : ℕ} {e : ListRecord} → Right p e → Fits e
    right_fits (as_init l (opens h)) =
        record { k = omega arith; t1 = omega (arith, h.below); t2 = omega arith; spare = omega arith }
    right_fits (as_initial l i (sets k g)) = record { k = g.k; t1 = omega arith; t2 = omega arith; spare = omega arith }
    right_fits (as_later l h) = later_fits h
