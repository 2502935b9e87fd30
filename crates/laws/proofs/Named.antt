-- "Each variable named is below 32": a and b of a record whose fields are right, and of each record of a sound list; and k of an AWAIT that is
-- against a variable. Assumes nothing.
use mathlib.Core.Path.{◌≡◌, refl, sym}
use mathlib.Core.Bool.{Bool, true, false, ◌&&◌, ◌||◌, and-false, true≢false}
use mathlib.Core.List.{List, [], ◌∷◌}
use Prim.Native.Nat.{ℕ, ◌≤◌, ◌<◌}
use native.Mathlib.Omega.{arith}
use lib.Dec.{eqb, ltb}
use lib.ListN.{length, get_or, get_or-eq_default}
use borrow.Author.Tests.{eqb-true, ltb-true, ltb-false, le-ltb}
use Rattle.rules.specs.Words.{among, each}
use Rattle.rules.specs.Names.{STATION, SKIP, SET, IF, ELSE, FI, WHILE, OD, AWAIT, END, STOP, variables}
use Rattle.rules.specs.Records.{Record, list_record_at, list_count}
use Rattle.rules.specs.Fields.{Rule, naught, variable, free, outside, obeys, Rules, no_row, set_rows, test_rows, rules_of, fields_right}
use Rattle.rules.specs.List.{stations, later, own_right, init_right, initial_right, later_right, sound_list}
use Rattle.laws.proofs.Choice.{by_test, surely, split}
use Rattle.laws.proofs.Places.{each_at}
use Rattle.laws.proofs.Sound.{few_stations, inits_right, initials_right, laters_right}

-- a and b are below 32
abbrev pub Named : Record → Type 0
Named r = (r.a < variables) × (r.b < variables)

-- the rule keeps a number below 32
abbrev bound : Rule → Bool
bound naught = true
bound variable = true
bound free = false
bound outside = true

-- a row by which neither a nor b is free
abbrev names : Rules → Bool
names rules = bound rules.a && bound rules.b

-- what holds of each row, and where there is none, holds for every op
row_all : (f : ℕ → Rules → Bool) → ((op : ℕ) → f op no_row ≡ true)
    → (rows : List Rules) → each (λ i. f i (get_or rows i no_row)) (length rows) ≡ true → (op : ℕ) → f op (get_or rows op no_row) ≡ true
row_all f past rows all op =
    by_test (ltb op (length rows)) (λ l. each_at _ (length rows) all op (ltb-true op (length rows) l))
    (λ l. rw (get_or-eq_default rows no_row {n = op} (ltb-false op (length rows) l)) (past op))

row_names : (rows : List Rules) → each (λ i. names (get_or rows i no_row)) (length rows) ≡ true → (op : ℕ) → names (get_or rows op no_row) ≡ true
row_names = row_all (λ op. names) (λ op. refl)

-- every row of the table is such a row
table_names : (kind op : ℕ) → names (rules_of kind op) ≡ true
unfolding rules_of each
table_names kind op =
    by_test (among kind (STATION ∷ SKIP ∷ ELSE ∷ FI ∷ OD ∷ END ∷ [])) (λ e. rw e)
    (λ e. by_test (eqb kind SET) (λ d. rw (e, d) (row_names set_rows refl op))
    (λ d. by_test (among kind (IF ∷ WHILE ∷ AWAIT ∷ [])) (λ f. rw (e, d, f) (row_names test_rows refl op)) (λ f. rw (e, d, f))))

below : (rule : Rule) (v : ℕ) → bound rule ≡ true → obeys rule v ≡ true → v < variables
below naught v h e = omega (arith, eqb-true v 0 e)
below variable v h e = ltb-true v variables e
below free v h e = absurd (true≢false (sym h))
below outside v h e = absurd (true≢false (sym e))

fields_named : (r : Record) → fields_right r ≡ true → Named r
unfolding fields_right
fields_named r right =
    let rules = rules_of r.kind r.op in
    let held = split (bound rules.a) (bound rules.b) (table_names r.kind r.op) in (
      below rules.a r.a held.0 (surely (obeys rules.a r.a) (λ d. simp d at right)),
      below rules.b r.b held.1 (surely (obeys rules.b r.b) (λ d. simp (d, and-false) at right)),
    )

-- a STOP's are zero
own_named : (r : Record) → own_right r ≡ true → Named r
own_named r right =
    by_test (eqb r.kind STOP)
    (λ e. (
      omega (arith, eqb-true r.a 0 (surely (eqb r.a 0) (λ d. simp (e, d) at right))),
      omega (arith, eqb-true r.b 0 (surely (eqb r.b 0) (λ d. simp (e, d, and-false) at right))),
    ))
    (λ e. fields_named r (rw e at right))

-- an INIT's a is its place, of eight at most; every other record's fields are right
module _ (list : List ℕ) (sound : sound_list list ≡ true) (p : ℕ) where
  init_named : p < stations list → Named (list_record_at list p).own
  unfolding init_right
  init_named l =
      let right = inits_right list sound p l in
      let r = (list_record_at list p).own in (
        omega (arith, few_stations list sound, eqb-true r.a p (surely (eqb r.a p) (λ d. simp d at right))),
        omega (arith, eqb-true r.b 0 (surely (eqb r.b 0) (λ d. simp (d, and-false) at right))),
      )

  pub sound_named : p < list_count list → Named (list_record_at list p).own
  unfolding initial_right later_right
  sound_named within =
      let r = (list_record_at list p).own in
      by_test (ltb p (stations list)) (λ e. init_named (ltb-true p (stations list) e))
      (λ e. by_test (ltb p (later list))
      (λ d. fields_named r (surely (fields_right r) (λ f. simp (f, and-false) at (initials_right list sound p (ltb-false p (stations list) e) (ltb-true p (later list) d)))))
      (λ d. own_named r (surely (own_right r) (λ f. simp (f, and-false) at (laters_right list sound p (ltb-false p (later list) d) within)))))

-- by a condition against a variable k is not free
second_bound : (op : ℕ) → (ltb op 4 || bound (get_or test_rows op no_row).k) ≡ true
unfolding each
second_bound = row_all (λ op rules. ltb op 4 || bound rules.k) (λ op. by_test (ltb op 4) (λ e. rw e) (λ e. rw e)) test_rows refl

-- so that an AWAIT against a variable names one below 32
await_rules : (r : Record) → r.kind ≡ AWAIT → rules_of r.kind r.op ≡ get_or test_rows r.op no_row
unfolding rules_of
await_rules r await = rw await

await_second : (r : Record) → r.kind ≡ AWAIT → 4 ≤ r.op → fields_right r ≡ true → r.k < variables
unfolding fields_right
await_second r await against right =
    let rules = rules_of r.kind r.op in
    let held : obeys rules.k r.k ≡ true = surely (obeys rules.k r.k) (λ d. simp (d, and-false) at right) in
    below (get_or test_rows r.op no_row).k r.k (rw (le-ltb r.op 4 against) at (second_bound r.op))
    (rw (await_rules r await) at held)

pub sound_second : (list : List ℕ) (p : ℕ) → sound_list list ≡ true → later list ≤ p → p < list_count list
    → (list_record_at list p).own.kind ≡ AWAIT → 4 ≤ (list_record_at list p).own.op → (list_record_at list p).own.k < variables
unfolding later_right
sound_second list p sound from within await against =
    let r = (list_record_at list p).own in
    let right : own_right r ≡ true = surely (own_right r) (λ f. simp (f, and-false) at (laters_right list sound p from within)) in
    await_second r await against (rw await at right)
