-- The records of a list are those of the statements that stand at their places, and lead where the document says. By induction on where
-- a statement stands. Assumes nothing.
use mathlib.Core.List.{List, ◌++◌}
use Prim.Native.Nat.{ℕ, suc, ◌+◌, ◌≤◌, ◌<◌}
use native.Mathlib.Omega.{arith}
use lib.Dec.{ltb}
use lib.ListN.{length}
use borrow.Author.Tests.{ltb-true, ltb-false}
use Rattle.rules.specs.Records.{Record, ListRecord}
use Rattle.rules.specs.Trees.{Statements, nothing, skip, assign, branch, loop, await, size}
use Rattle.rules.specs.Build.{start_of, laid, inits, bodies, list_of}
use Rattle.laws.proofs.Choice.{by_test}
use Rattle.built.specs.Targets.{Statement, a_loop, an_await, FirstOf, skip_begins, assign_begins, branch_begins, loop_begins, await_begins, Spot, spot, Stands, here, in_rest, in_first, in_second, in_loop, in_body, record_of, StandsAt, Has, this, others, Placed, Targets, LastOf, last, ends_rest, ends_first, ends_second, Closing}
use Rattle.built.proofs.Along.{Along}
use Rattle.built.proofs.Standing.{apart, parts_apart, standing}

module _ (P : ℕ → ListRecord → Type 0) (station : ℕ) where
  -- what holds of statements' records holds of the first statement's and of the rest's
  first_record : {t rest : Statements} {s : Statement} {p q : ℕ} → FirstOf t p s rest q → (inside after : ℕ)
      → Along P p (laid station inside p after t) → P p (record_of station (spot inside p (start_of q after rest)) s)
  unfolding laid
  first_record skip_begins inside after h = h.0
  first_record assign_begins inside after h = h.0
  first_record branch_begins inside after h = h.0
  first_record loop_begins inside after h = h.0
  first_record await_begins inside after h = h.0

  branch_parts : (r : Record) (x y rest : Statements) (inside p after : ℕ) → Along P p (laid station inside p after (branch r x y rest))
      → Along P (suc p) (laid station inside (suc p) (start_of (suc p + size x + size y) after rest) x)
      × Along P (suc p + size x) (laid station inside (suc p + size x) (start_of (suc p + size x + size y) after rest) y)
      × Along P (suc p + size x + size y) (laid station inside (suc p + size x + size y) after rest)
  unfolding laid
  branch_parts r x y rest inside p after h =
      let next : ℕ = start_of (suc p + size x + size y) after rest in
      let rs = laid station inside (suc p + size x + size y) after rest in
      let k = apart P station inside (suc p) next x (laid station inside (suc p + size x) next y ++ rs) h.1 in
      let l = apart P station inside (suc p + size x) next y rs k.1 in
      (k.0, l.0, l.1)

  rest_records : {t rest : Statements} {s : Statement} {p q : ℕ} → FirstOf t p s rest q → (inside after : ℕ)
      → Along P p (laid station inside p after t) → Along P q (laid station inside q after rest)
  unfolding laid
  rest_records skip_begins inside after h = h.1
  rest_records assign_begins inside after h = h.1
  rest_records (branch_begins {r} {x} {y} {rest} {p}) inside after h = (branch_parts r x y rest inside p after h).2
  rest_records (loop_begins {x = x} {p = p}) inside after h = (apart P station inside (suc p) p x _ h.1).1
  rest_records (await_begins {x = x} {p = p}) inside after h = (apart P station 1 (suc p) 0 x _ h.1).1

  stands_record : {t : Statements} {w o : Spot} {s : Statement} → Stands t w s o
      → Along P w.place (laid station w.inside w.place w.after t) → P o.place (record_of station o s)
  unfolding laid
  stands_record (here {inside = inside} {after = after} b) h = first_record b inside after h
  stands_record (in_rest {inside = inside} {after = after} b c) h = stands_record c (rest_records b inside after h)
  stands_record (in_first {r} {x} {y} {rest} {inside = inside} {p = p} {after = after} c) h =
      stands_record c (branch_parts r x y rest inside p after h).0
  stands_record (in_second {r} {x} {y} {rest} {inside = inside} {p = p} {after = after} c) h =
      stands_record c (branch_parts r x y rest inside p after h).1
  stands_record (in_loop {x = x} {inside = inside} {p = p} c) h = stands_record c (apart P station inside (suc p) p x _ h.1).0
  stands_record (in_body {x = x} {p = p} c) h = stands_record c (apart P station 1 (suc p) 0 x _ h.1).0

-- a statement that stands in a part of t stands in t
moved : {t u : Statements} {w v : Spot} {q : ℕ} → ((s : Statement) (o : Spot) → Stands u v s o → Stands t w s o) → Placed u v q → Placed t w q
moved f c = record { statement = c.statement; at = c.at; stands = f c.statement c.at c.stands; there = c.there }

place_by : {X : Type 0} (q k : ℕ) → (q < k → X) → (k ≤ q → X) → X
place_by q k f g = by_test (ltb q k) (λ e. f (ltb-true q k e)) (λ e. g (ltb-false q k e))

-- at the first place stands the first statement
first_or : {t rest : Statements} {s : Statement} {p o : ℕ} → FirstOf t p s rest o → (inside after q : ℕ) → p ≤ q
    → (p < q → Placed t (spot inside p after) q) → Placed t (spot inside p after) q
first_or {rest = rest} {s} {p} {o} b inside after q l f =
    place_by p q f (λ k. record { statement = s; at = spot inside p (start_of o after rest); stands = here b; there = omega arith })

-- and a statement stands at each place
every_place : (t : Statements) (inside p after q : ℕ) → p ≤ q → q < p + size t → Placed t (spot inside p after) q
unfolding size
every_place nothing inside p after q l h = absurd (omega arith)
every_place (skip rest) inside p after q l h =
    first_or skip_begins inside after q l
    (λ k. moved (λ s o. in_rest skip_begins) (every_place rest inside (suc p) after q k (omega arith)))
every_place (assign r rest) inside p after q l h =
    first_or assign_begins inside after q l
    (λ k. moved (λ s o. in_rest assign_begins) (every_place rest inside (suc p) after q k (omega arith)))
every_place (branch r x y rest) inside p after q l h =
    let next : ℕ = start_of (suc p + size x + size y) after rest in
    first_or branch_begins inside after q l
    (λ k. place_by q (suc p + size x) (λ i. moved (λ s o. in_first) (every_place x inside (suc p) next q k i))
    (λ i. place_by q (suc p + size x + size y) (λ j. moved (λ s o. in_second) (every_place y inside (suc p + size x) next q i j))
    (λ j. moved (λ s o. in_rest branch_begins) (every_place rest inside (suc p + size x + size y) after q j (omega arith)))))
every_place (loop r x rest) inside p after q l h =
    first_or loop_begins inside after q l
    (λ k. place_by q (suc p + size x) (λ i. moved (λ s o. in_loop) (every_place x inside (suc p) p q k i))
    (λ i. moved (λ s o. in_rest loop_begins) (every_place rest inside (suc p + size x) after q i (omega arith))))
every_place (await r x rest) inside p after q l h =
    first_or await_begins inside after q l
    (λ k. place_by q (suc p + size x) (λ i. moved (λ s o. in_body) (every_place x 1 (suc p) 0 q k i))
    (λ i. moved (λ s o. in_rest await_begins) (every_place rest inside (suc p + size x) after q i (omega arith))))

-- the stations of a list
has_targets : (es : List ListRecord) {i o j p : ℕ} {x : Statements} {stations : List Statements} → Has i o stations j p x
    → Along (StandsAt es) i (inits i o stations) → Along (StandsAt es) o (bodies i o stations) → Targets es j p x
unfolding inits bodies
has_targets es (this {i} {o} {x}) h k =
    let parts = apart (StandsAt es) i 0 o (o + size x) x _ k in
    record {
      init = h.0;
      steps = λ s w c. stands_record (StandsAt es) i c parts.0;
      every = λ q. every_place x 0 o (o + size x) q;
      stop = parts.1.0;
    }
has_targets es (others {i} {o} {y = y} c) h k =
    has_targets es c h.1 (apart (StandsAt es) i 0 o (o + size y) y _ k).1.1

pub list_targets : (initial : List Record) (stations : List Statements) (j p : ℕ) (x : Statements)
    → Has 0 (length stations + length initial) stations j p x → Targets (list_of initial stations) j p x
list_targets initial stations j p x c =
    let parts = parts_apart (StandsAt (list_of initial stations)) initial stations (standing (list_of initial stations)) in
    has_targets (list_of initial stations) c parts.0 parts.2

-- a step that ends statements is followed by what comes after them
ends_stands : {t : Statements} {s : Statement} {p q : ℕ} → LastOf t p s q → (inside after : ℕ) → Stands t (spot inside p after) s (spot inside q after)
ends_stands (last b) inside after = here b
ends_stands (ends_rest b c) inside after = in_rest b (ends_stands c inside after)
ends_stands (ends_first c) inside after = in_first (ends_stands c inside after)
ends_stands (ends_second c) inside after = in_second (ends_stands c inside after)

-- the part of a loop or an AWAIT at a spot, and the part's own spot
data Part : Statement → Spot → Statements → Spot → Type 0 where
  loop_part : {r : Record} {x : Statements} {o : Spot} → Part (a_loop r x) o x (spot o.inside (suc o.place) o.place)
  body_part : {r : Record} {x : Statements} {o : Spot} → Part (an_await r x) o x (spot 1 (suc o.place) 0)

in_part : {t x : Statements} {w o v z : Spot} {s u : Statement} → Stands t w u o → Part u o x v → Stands x v s z → Stands t w s z
in_part (here skip_begins) k c = elim k [ ]
in_part (here assign_begins) k c = elim k [ ]
in_part (here branch_begins) k c = elim k [ ]
in_part (here loop_begins) loop_part c = in_loop c
in_part (here await_begins) body_part c = in_body c
in_part (in_rest b d) k c = in_rest b (in_part d k c)
in_part (in_first d) k c = in_first (in_part d k c)
in_part (in_second d) k c = in_second (in_part d k c)
in_part (in_loop d) k c = in_loop (in_part d k c)
in_part (in_body d) k c = in_body (in_part d k c)

pub closing : (t : Statements) (w : Spot) → Closing t w
closing t w =
    record {
      of_loop = λ r x o s q c e. in_part c loop_part (ends_stands e o.inside o.place);
      of_body = λ r x o s q c e. in_part c body_part (ends_stands e 1 0);
      of_all = λ s q e. ends_stands e w.inside w.after;
    }
