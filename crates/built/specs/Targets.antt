-- Where each statement of a station stands in the list, what comes after it, and its record there. These are definitions.
use Rattle.std.specs.Prelude.{ℕ, suc, ◌+◌, ◌≤◌, ◌<◌, ◌≡◌, List, ◌∷◌, length, get_or}
use Rattle.rules.specs.Names.{SKIP, INIT, STOP}
use Rattle.rules.specs.Records.{Record, ListRecord}
use Rattle.rules.specs.Trees.{Statements, nothing, skip, assign, branch, loop, await, size}
use Rattle.rules.specs.Build.{bare, listed, start_of}

-- a statement, without those that come after it
pub data Statement : Type 0 where
  a_skip : Statement
  an_assign : Record → Statement
  a_branch : Record → Statements → Statements → Statement
  a_loop : Record → Statements → Statement
  an_await : Record → Statements → Statement

-- the statements t, from the place p on, are the statement s and then the rest, from the place q on
pub data FirstOf : Statements → ℕ → Statement → Statements → ℕ → Type 0 where
  skip_begins : {rest : Statements} {p : ℕ} → FirstOf (skip rest) p a_skip rest (suc p)
  assign_begins : {r : Record} {rest : Statements} {p : ℕ} → FirstOf (assign r rest) p (an_assign r) rest (suc p)
  branch_begins : {r : Record} {x y rest : Statements} {p : ℕ}
      → FirstOf (branch r x y rest) p (a_branch r x y) rest (suc p + size x + size y)
  loop_begins : {r : Record} {x rest : Statements} {p : ℕ} → FirstOf (loop r x rest) p (a_loop r x) rest (suc p + size x)
  await_begins : {r : Record} {x rest : Statements} {p : ℕ} → FirstOf (await r x rest) p (an_await r x) rest (suc p + size x)

-- where a statement, or several, stand: their byte 9, the place of their first record, and the step that comes after them
pub record Spot : Type 0 where
  pub inside : ℕ
  pub place : ℕ
  pub after : ℕ

abbrev pub spot : ℕ → ℕ → ℕ → Spot
spot inside place after = record { inside = inside; place = place; after = after }

-- among the statements t, which stand at the first spot, the statement s stands at the second: it begins them; it is in the rest; in a
-- branch, after which comes the rest; in a loop, after which comes its WHILE; in a body, which byte 9 tells and 0 leaves
pub data Stands : Statements → Spot → Statement → Spot → Type 0 where
  here : {t rest : Statements} {s : Statement} {inside p q after : ℕ} → FirstOf t p s rest q
      → Stands t (spot inside p after) s (spot inside p (start_of q after rest))
  in_rest : {t rest : Statements} {s u : Statement} {o : Spot} {inside p q after : ℕ} → FirstOf t p u rest q
      → Stands rest (spot inside q after) s o → Stands t (spot inside p after) s o
  in_first : {r : Record} {x y rest : Statements} {s : Statement} {o : Spot} {inside p after : ℕ}
      → Stands x (spot inside (suc p) (start_of (suc p + size x + size y) after rest)) s o
      → Stands (branch r x y rest) (spot inside p after) s o
  in_second : {r : Record} {x y rest : Statements} {s : Statement} {o : Spot} {inside p after : ℕ}
      → Stands y (spot inside (suc p + size x) (start_of (suc p + size x + size y) after rest)) s o
      → Stands (branch r x y rest) (spot inside p after) s o
  in_loop : {r : Record} {x rest : Statements} {s : Statement} {o : Spot} {inside p after : ℕ}
      → Stands x (spot inside (suc p) p) s o → Stands (loop r x rest) (spot inside p after) s o
  in_body : {r : Record} {x rest : Statements} {s : Statement} {o : Spot} {inside p after : ℕ}
      → Stands x (spot 1 (suc p) 0) s o → Stands (await r x rest) (spot inside p after) s o

-- "SKIP and SET: t1 is the next step. IF and WHILE: t1 when true, t2 when false … AWAIT: t1 is the following record, t2 the step after
-- END": the record of a statement of a station at its spot
abbrev pub record_of : ℕ → Spot → Statement → ListRecord
record_of station o a_skip = listed (bare SKIP 0) station o.inside o.after 0
record_of station o (an_assign r) = listed r station o.inside o.after 0
record_of station o (a_branch r x y) =
    listed r station o.inside (start_of (suc o.place) o.after x) (start_of (suc o.place + size x) o.after y)
record_of station o (a_loop r x) = listed r station o.inside (start_of (suc o.place) o.place x) o.after
record_of station o (an_await r x) = listed r station o.inside (suc o.place) o.after

-- what there is past the end of the records; and the record e stands at the place q of the list es
abbrev pub blank : ListRecord
blank = listed (bare 0 0) 0 0 0 0

abbrev pub StandsAt : List ListRecord → ℕ → ListRecord → Type 0
StandsAt es q e = (q < length es) × (get_or es q blank ≡ e)

-- of stations from number i on, the first of them at the place o, station j is the statements x from the place p on
pub data Has : ℕ → ℕ → List Statements → ℕ → ℕ → Statements → Type 0 where
  this : {i o : ℕ} {x : Statements} {stations : List Statements} → Has i o (x ∷ stations) i o x
  others : {i o j p : ℕ} {x y : Statements} {stations : List Statements} → Has (suc i) (suc (o + size y)) stations j p x
      → Has i o (y ∷ stations) j p x

-- a statement of t stands at the place q
pub record Placed (t : Statements) (w : Spot) (q : ℕ) : Type 0 where
  pub statement : Statement
  pub at : Spot
  pub stands : Stands t w statement at
  pub there : at.place ≡ q

-- "for each station j, INIT: … t1 = its first step"; then its statements where they stand, "then STOP", which comes after them
pub record Targets (es : List ListRecord) (j p : ℕ) (x : Statements) : Type 0 where
  pub init : StandsAt es j (listed (bare INIT j) j 0 p 0)
  pub steps : (s : Statement) (o : Spot) → Stands x (spot 0 p (p + size x)) s o → StandsAt es o.place (record_of j o s)
  pub every : (q : ℕ) → p ≤ q → q < p + size x → Placed x (spot 0 p (p + size x)) q
  pub stop : StandsAt es (p + size x) (listed (bare STOP 0) j 0 0 0)

-- in the statements t, the first of them at the place p, the statement s at the place q is the last step, or the last of a branch that
-- ends them
pub data LastOf : Statements → ℕ → Statement → ℕ → Type 0 where
  last : {t : Statements} {s : Statement} {p q : ℕ} → FirstOf t p s nothing q → LastOf t p s p
  ends_rest : {t rest : Statements} {s u : Statement} {p q o : ℕ} → FirstOf t p u rest o → LastOf rest o s q → LastOf t p s q
  ends_first : {r : Record} {x y : Statements} {s : Statement} {p q : ℕ} → LastOf x (suc p) s q → LastOf (branch r x y nothing) p s q
  ends_second : {r : Record} {x y : Statements} {s : Statement} {p q : ℕ} → LastOf y (suc p + size x) s q
      → LastOf (branch r x y nothing) p s q

-- "After the last step of a loop comes its WHILE", wherever the loop stands; "after a station's last, its STOP"; "In a body, target 0
-- leaves it"
pub record Closing (t : Statements) (w : Spot) : Type 0 where
  pub of_loop : (r : Record) (x : Statements) (o : Spot) (s : Statement) (q : ℕ) → Stands t w (a_loop r x) o → LastOf x (suc o.place) s q
      → Stands t w s (spot o.inside q o.place)
  pub of_body : (r : Record) (x : Statements) (o : Spot) (s : Statement) (q : ℕ) → Stands t w (an_await r x) o → LastOf x (suc o.place) s q
      → Stands t w s (spot 1 q 0)
  pub of_all : (s : Statement) (q : ℕ) → LastOf t w.place s q → Stands t w s (spot w.inside q w.after)
