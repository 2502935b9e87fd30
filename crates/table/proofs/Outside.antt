-- Records that lie outside the table by their kind or their op alone: the rules refuse them too.
-- Assumes nothing.
use Rattle.std.specs.Prelude.{if◌then◌else◌}
use mathlib.Core.Path.{◌≡◌, refl}
use mathlib.Core.Bool.{Bool, true, false, and-false}
use mathlib.Core.List.{[], ◌∷◌}
use Prim.Native.Nat.{ℕ, ◌≤◌, ◌<◌}
use native.Mathlib.Omega.{arith}
use lib.Dec.{eqb, lit<}
use lib.ListN.{get_or, get_or-eq_default}
use borrow.Author.Tests.{ne_eqb}
use Rattle.rules.specs.Words.{among}
use Rattle.rules.specs.Names.{STATION, SKIP, SET, IF, ELSE, FI, WHILE, OD, AWAIT, END}
use Rattle.rules.specs.Records.{Record}
use Rattle.rules.specs.Fields.{obeys, no_row, bare_row, set_rows, test_rows, rules_of, fields_right}

-- no kind of the written sequence is above 10
no_kind : (kind op : ℕ) → 11 ≤ kind → rules_of kind op ≡ no_row
unfolding rules_of
no_kind kind op h =
    let differs : (x : ℕ) → x < 11 → eqb kind x ≡ false = λ x l. ne_eqb kind x (λ e. omega arith) in
    simp (
      differs STATION (lit< tt),
      differs SKIP (lit< tt),
      differs SET (lit< tt),
      differs IF (lit< tt),
      differs ELSE (lit< tt),
      differs FI (lit< tt),
      differs WHILE (lit< tt),
      differs OD (lit< tt),
      differs AWAIT (lit< tt),
      differs END (lit< tt),
    )

-- an op that is not zero breaks the rule of a bare kind, and that of no row
bare_or_none :
    (bare set test : Bool) (op : ℕ) → eqb op 0 ≡ false →
    obeys (if bare then bare_row else if set then no_row else if test then no_row else no_row).op op ≡ false
bare_or_none true set test op e = e
bare_or_none false true test op e = refl
bare_or_none false false true op e = refl
bare_or_none false false false op e = refl

-- an op above 7 must be zero, or has no row
no_op : (kind op : ℕ) → 8 ≤ op → obeys (rules_of kind op).op op ≡ false
unfolding rules_of
no_op kind op h =
    let set : get_or set_rows op no_row ≡ no_row = get_or-eq_default set_rows no_row {n = op} (omega arith) in
    let test : get_or test_rows op no_row ≡ no_row = get_or-eq_default test_rows no_row {n = op} (omega arith) in
    rw (set, test)
    (bare_or_none
    (among kind (STATION ∷ SKIP ∷ ELSE ∷ FI ∷ OD ∷ END ∷ []))
    (eqb kind SET)
    (among kind (IF ∷ WHILE ∷ AWAIT ∷ []))
    op
    (ne_eqb op 0 (λ e. omega arith)))

pub kind_outside : (r : Record) → 11 ≤ r.kind → false ≡ fields_right r
unfolding fields_right
kind_outside r h = rw (no_kind r.kind r.op h)

pub op_outside : (r : Record) → 8 ≤ r.op → false ≡ fields_right r
unfolding fields_right
op_outside r h = rw (no_op r.kind r.op h, and-false)
