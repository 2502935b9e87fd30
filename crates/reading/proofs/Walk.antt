-- What the walk of SHAPE finds finished, `parts_of` reads: from a stand with open parts it answers the rest of each of them, and the
-- records are those of the parts with the closing records between them. Assumes nothing.
use mathlib.Core.Path.{◌≡◌, refl, sym, ap, ◌∙◌}
use mathlib.Core.Bool.{Bool, true, false, true≢false, false≢true}
use mathlib.Core.List.{List, [], ◌∷◌, ◌++◌, map, append_assoc}
use Prim.Native.Nat.{ℕ}
use native.Mathlib.Omega.{arith}
use Rattle.rules.specs.Words.{among}
use Rattle.rules.specs.Names.{STATION, SKIP, SET, IF, ELSE, FI, WHILE, OD, AWAIT, END}
use Rattle.rules.specs.Records.{Record}
use Rattle.rules.specs.Shape.{Part, opened, grown, Stand, initial, within, wrong, close, stride, finished, walked}
use Rattle.rules.specs.Trees.{Statements, nothing, skip, assign, branch, loop, await, before, round_one, round_two, read_on, parts_of}
use Rattle.rules.specs.Build.{bare}
use Rattle.reading.specs.Reading.{flat, Some, Proper, end, skips, assigns, branches, loops, awaits}
use Rattle.reading.proofs.Strides.{Stride, by_skip, by_set, by_if, by_while, by_await, by_close, by_fault, strides}
use Rattle.reading.proofs.Strides.{closing, Closed, nested_closes, InPart, inside_stride}

-- "STATION, SKIP, ELSE, FI, OD, END": all zero
abbrev pub zero_kind : ℕ → Bool
zero_kind k = among k (STATION ∷ SKIP ∷ ELSE ∷ FI ∷ OD ∷ END ∷ [])

-- a record of such a kind is bare
abbrev pub Bare : Record → Type 0
Bare r = zero_kind r.kind ≡ true → r ≡ bare r.kind 0

abbrev pub kinds_of : List Record → List ℕ
kinds_of = map (λ (r : Record). r.kind)

abbrev pub All-bare : List Record → Type 0
All-bare [] = Unit {0}
All-bare (r ∷ rs) = Bare r × All-bare rs

-- the statements that are still to come in a part
pub record Comes (p : Part) (x : Statements) : Type 0 where
  pub proper : Proper p.in_body x
  pub some : p.begun ≡ false → Some x

-- none have to come where the part has begun
ended : (p : Part) → p.begun ≡ true → Comes p nothing
ended p e = record { proper = end; some = λ n. absurd (true≢false (sym e ∙ n)) }

-- something holds of the parts that are open at a stand
abbrev pub At : (Part → List Part → Type 0) → Stand → Type 0
At P initial = ⊥
At P (within p ps) = P p ps
At P wrong = ⊥

-- the records from a stand on are those of x, which is the rest of the innermost part, and of the parts after it
abbrev pub Read : List Statements → Stand → Statements → List Record → Type 0
Read [] s x rs = At (λ p ps. (Comes p x × (ps ≡ []) × (rs ≡ flat x))) s
Read (y ∷ ys) s x rs =
    At (λ p ps. (comes : Comes p x) × (rest : List Record) × (rs ≡ flat x ++ (bare p.closed_by 0 ∷ rest))
    × Read ys (close p.closed_by p.in_body ps) y rest) s

-- they are so for these parts, one at least
pub record Found (all : List Statements) (s : Stand) (rs : List Record) : Type 0 where
  pub part : Statements
  pub parts : List Statements
  pub these : all ≡ part ∷ parts
  pub read : Read parts s part rs

-- one statement before the rest of a part, with the records that it adds
put : (p : Part) (ps : List Part) (f : Statements → Statements) (own : List Record)
    → ((x : Statements) → flat (f x) ≡ own ++ flat x)
    → ((x : Statements) → Proper p.in_body x → Proper p.in_body (f x)) → ((x : Statements) → Some (f x))
    → (x : Statements) (xs : List Statements) (rs : List Record) → Read xs (within (grown p) ps) x rs
    → Read xs (within p ps) (f x) (own ++ rs)
put p ps f own adds proper some x [] rs h =
    (record { proper = proper x h.0.proper; some = λ e. some x }, h.1, rw (adds, h.2))
put p ps f own adds proper some x (y ∷ ys) rs h =
    (record { proper = proper x h.0.proper; some = λ e. some x }, h.1, rw (adds, h.2, append_assoc), h.3)

-- a part that was opened within another, when it is closed
record Inner (c : ℕ) (b : Bool) (all : List Statements) (s : Stand) (rs : List Record) : Type 0 where
  part : Statements
  parts : List Statements
  these : all ≡ part ∷ parts
  comes : Comes (opened c b) part
  rest : List Record
  split : rs ≡ flat part ++ (bare c 0 ∷ rest)
  next : Found parts s rest

inner : (c : ℕ) (b : Bool) (p : Part) (ps : List Part) (all : List Statements) (rs : List Record)
    → Found all (within (opened c b) (p ∷ ps)) rs → Inner c b all (close c b (p ∷ ps)) rs
inner c b p ps all rs f = go f.parts f.these f.read
  where
    go : (xs : List Statements) → all ≡ f.part ∷ xs → Read xs (within (opened c b) (p ∷ ps)) f.part rs
        → Inner c b all (close c b (p ∷ ps)) rs
    go [] e h = let none : ◌≡◌ {A = List Part} (p ∷ ps) [] = h.1 in absurd (let z : ◌≡◌ {A = ℕ} 0 1 = cc in omega arith)
    go (y ∷ ys) e h =
        record {
          part = f.part;
          parts = y ∷ ys;
          these = e;
          comes = h.0;
          rest = h.1;
          split = h.2;
          next = record { part = y; parts = ys; these = refl; read = h.3 };
        }

-- what an opening record does with the parts after it
before_is : {x : Statements} {all xs : List Statements} (put : Statements → Statements) → all ≡ x ∷ xs → before put all ≡ put x ∷ xs
before_is put e = rw e

round_one_is : {x : Statements} {all xs : List Statements} (put : Statements → Statements → Statements) → all ≡ x ∷ xs
    → round_one put all ≡ before (put x) xs
round_one_is put e = rw e

round_two_is : {x : Statements} {all xs : List Statements} (put : Statements → Statements → Statements → Statements)
    → all ≡ x ∷ xs → round_two put all ≡ round_one (put x) xs
round_two_is put e = rw e

-- one record more, before those that are read
module _ (p : Part) (ps : List Part) (r : Record) (rs : List Record) (all : List Statements) where
  step_skip : r ≡ bare SKIP 0 → Found all (within (grown p) ps) rs → Found (read_on r all) (within p ps) (r ∷ rs)
  unfolding flat
  step_skip e f =
      record {
        part = skip f.part;
        parts = f.parts;
        these = rw (e, f.these);
        read = rw e (put p ps skip (bare SKIP 0 ∷ []) (λ x. refl) (λ x. skips) (λ x. tt) f.part f.parts rs f.read);
      }

  step_set : r.kind ≡ SET → Found all (within (grown p) ps) rs → Found (read_on r all) (within p ps) (r ∷ rs)
  unfolding flat
  step_set e f =
      record {
        part = assign r f.part;
        parts = f.parts;
        these = rw (e, f.these);
        read = put p ps (assign r) (r ∷ []) (λ x. refl) (λ x. assigns e) (λ x. tt) f.part f.parts rs f.read;
      }

  -- WHILE and AWAIT: the part that they open, and then the rest of this one
  step_one : (statement : Statements → Statements → Statements) (c : ℕ) (b : Bool)
      → read_on r all ≡ round_one statement all
      → ((x y : Statements) → flat (statement x y) ≡ r ∷ (flat x ++ (bare c 0 ∷ flat y)))
      → ((x y : Statements) → Some x → Proper b x → Proper p.in_body y → Proper p.in_body (statement x y))
      → ((x y : Statements) → Some (statement x y))
      → Inner c b all (within (grown p) ps) rs → Found (read_on r all) (within p ps) (r ∷ rs)
  step_one statement c b takes adds proper some g =
      let x = g.part in
      let h = g.next in
      let own : List Record = r ∷ (flat x ++ (bare c 0 ∷ [])) in
      record {
        part = statement x h.part;
        parts = h.parts;
        these = takes ∙ round_one_is statement g.these ∙ before_is (statement x) h.these;
        read =
            rw g.split
            (rw append_assoc at
            (put p ps (statement x) own (λ y. adds x y ∙ rw append_assoc)
            (λ y. proper x y (g.comes.some refl) g.comes.proper) (some x) h.part h.parts g.rest h.read));
      }

  -- IF: its two parts, and then the rest of this one
  step_if : r.kind ≡ IF → Found all (within (opened ELSE p.in_body) (grown p ∷ ps)) rs
      → Found (read_on r all) (within p ps) (r ∷ rs)
  unfolding flat
  step_if e f = go (inner ELSE p.in_body (grown p) ps all rs f)
    where
      next : (g : Inner ELSE p.in_body all (within (opened FI p.in_body) (grown p ∷ ps)) rs)
          → Inner FI p.in_body g.parts (within (grown p) ps) g.rest → Found (read_on r all) (within p ps) (r ∷ rs)
      next g h =
          let x = g.part in
          let y = h.part in
          let f = h.next in
          let own : List Record = r ∷ (flat x ++ (bare ELSE 0 ∷ (flat y ++ (bare FI 0 ∷ [])))) in
          let takes : read_on r all ≡ round_two (branch r) all = rw e in
          record {
            part = branch r x y f.part;
            parts = f.parts;
            these =
                takes ∙ round_two_is (branch r) g.these ∙ round_one_is (branch r x) h.these
                ∙ before_is (branch r x y) f.these;
            read =
                rw (g.split, h.split)
                (rw (append_assoc, append_assoc) at
                (put p ps (branch r x y) own (λ z. rw (append_assoc, append_assoc))
                (λ z. branches e (g.comes.some refl) g.comes.proper (h.comes.some refl) h.comes.proper) (λ z. tt)
                f.part f.parts h.rest f.read));
          }

      go : Inner ELSE p.in_body all (within (opened FI p.in_body) (grown p ∷ ps)) rs
          → Found (read_on r all) (within p ps) (r ∷ rs)
      go g = next g (inner FI p.in_body (grown p) ps g.parts g.rest g.next)

  step_while : r.kind ≡ WHILE → p.in_body ≡ false → Found all (within (opened OD false) (grown p ∷ ps)) rs
      → Found (read_on r all) (within p ps) (r ∷ rs)
  unfolding flat
  step_while e o f =
      step_one (loop r) OD false (rw e) (λ x y. refl) (λ x y s t. rw o (loops e s t)) (λ x y. tt)
      (inner OD false (grown p) ps all rs f)

  step_await : r.kind ≡ AWAIT → p.in_body ≡ false → Found all (within (opened END true) (grown p ∷ ps)) rs
      → Found (read_on r all) (within p ps) (r ∷ rs)
  unfolding flat
  step_await e o f =
      step_one (await r) END true (rw e) (λ x y. refl) (λ x y s t. rw o (awaits e s t)) (λ x y. tt)
      (inner END true (grown p) ps all rs f)

  step_close : Closed p → r ≡ bare p.closed_by 0 → p.begun ≡ true → Found all (close p.closed_by p.in_body ps) rs
      → Found (read_on r all) (within p ps) (r ∷ rs)
  unfolding flat
  step_close c e d f =
      let takes = closing (λ k. read_on (bare k 0) all ≡ nothing ∷ all) refl refl refl refl refl p.closed_by c in
      record {
        part = nothing;
        parts = f.part ∷ f.parts;
        these = rw e (takes ∙ ap (λ (l : List Statements). nothing ∷ l) f.these);
        read = (ended p d, rs, ap (λ (q : Record). q ∷ rs) e, f.read);
      }

pub not_wrong : (all : List Statements) (rs : List Record) → Found all wrong rs → ⊥
not_wrong all rs f = go f.parts f.read
  where
    go : (xs : List Statements) → Read xs wrong f.part rs → ⊥
    go [] h = h
    go (x ∷ xs) h = h

step : (s : Stand) (r : Record) (rs : List Record) → InPart s → Bare r → Found (parts_of rs) (stride s r.kind) rs
    → Found (parts_of (r ∷ rs)) s (r ∷ rs)
unfolding stride parts_of
step initial r rs c plain f = absurd c
step (within p ps) r rs c plain f = go (strides p ps r.kind closed)
  where
    closed : Closed p
    closed = nested_closes _ ps c

    go : Stride p ps r.kind → Found (read_on r (parts_of rs)) (within p ps) (r ∷ rs)
    go (by_skip e t) = step_skip p ps r rs (parts_of rs) (plain (rw e refl) ∙ ap (λ (k : ℕ). bare k 0) e) (rw t at f)
    go (by_set e t) = step_set p ps r rs (parts_of rs) e (rw t at f)
    go (by_if e t) = step_if p ps r rs (parts_of rs) e (rw t at f)
    go (by_while e o t) = step_while p ps r rs (parts_of rs) e o (rw t at f)
    go (by_await e o t) = step_await p ps r rs (parts_of rs) e o (rw t at f)
    go (by_close e d t) =
        let zero = closing (λ k. zero_kind k ≡ true) refl refl refl refl refl p.closed_by closed in
        step_close p ps r rs (parts_of rs) closed (plain (rw e zero) ∙ ap (λ (k : ℕ). bare k 0) e) d (rw (t, e) at f)
    go (by_fault t) = absurd (not_wrong (parts_of rs) rs (rw t at f))
step wrong r rs c plain f = absurd (not_wrong (parts_of rs) rs f)

pub read : (rs : List Record) (s : Stand) → InPart s → All-bare rs → finished (walked s (kinds_of rs)) ≡ true
    → Found (parts_of rs) s rs
unfolding walked parts_of flat
read [] initial c a e = absurd c
read [] (within p []) c a e =
    record { part = nothing; parts = []; these = refl; read = (ended p e, refl, refl) }
read [] (within p (q ∷ qs)) c a e = absurd (false≢true e)
read [] wrong c a e = absurd (false≢true e)
read (r ∷ rs) s c a e = step s r rs c a.0 (read rs (stride s r.kind) (inside_stride s r.kind c) a.1 e)
