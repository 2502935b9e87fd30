-- Reading statements from their first record to their last finds the place of each loop's WHILE, in the order of the ODs. By induction on
-- the statements. Assumes nothing.
use mathlib.Core.Path.{◌≡◌, refl, sym, ap, ◌∙◌}
use mathlib.Core.Bool.{Bool, true}
use mathlib.Core.List.{List, [], ◌∷◌, ◌++◌, append_assoc}
use Prim.Native.Nat.{ℕ, suc, ◌+◌, ◌-◌, ◌≤◌, ◌<◌}
use native.Mathlib.Nat.{add-zero, not-suc-le-zero}
use native.Mathlib.Decide.{dec_le}
use native.Mathlib.Omega.{arith}
use lib.Dec.{ltb}
use lib.ListN.{length, get_or, set, length-set, length-append, get_or-append}
use lib.Seq.{get_or-set_same, get_or-set_other, get_or-append-add, get_or-append_seam}
use borrow.Author.Tests.{lt-ltb}
use Rattle.rules.specs.Names.{STATION, SKIP, SET, IF, ELSE, FI, WHILE, OD, AWAIT, END}
use Rattle.rules.specs.Records.{Record}
use Rattle.rules.specs.Trees.{Statements, skip, assign, branch, loop, await, size}
use Rattle.rules.specs.Build.{bare}
use Rattle.reading.specs.Reading.{flat, Proper, end, skips, assigns, branches, loops, awaits}
use Rattle.loops.specs.Loops.{Sought, more, sought, noted, seek_record, seek_records}
use Rattle.build.proofs.Parts.{Fits, loops_of, Among}

pub seek_append : (a b : List Record) (x : Sought) → seek_records (a ++ b) x ≡ seek_records b (seek_records a x)
unfolding seek_records
seek_append [] b x = refl
seek_append (r ∷ a) b x = seek_append a b (seek_record r x)

-- what holds before statements are read, of which the first record stands at p, with d parts open around them
pub record Ahead (t : Statements) (x : Sought) (p d : ℕ) : Type 0 where
  pub place : x.seeking.place ≡ p
  pub depth : x.seeking.depth ≤ d
  pub fits : Fits d t
  pub small : p + size t < 65535
  pub few : x.seeking.found + length (loops_of p t) ≤ 512
  pub whiles_length : length x.seeking.whiles ≡ 17
  pub places_length : length x.places ≡ 512

-- records that stand for n records of the list, from the place p on, were read, and the loops l were found in them
pub record Passed (n : ℕ) (l : List ℕ) (x y : Sought) (p : ℕ) : Type 0 where
  pub place : y.seeking.place ≡ p + n
  pub depth : y.seeking.depth ≡ x.seeking.depth
  pub whiles : (k : ℕ) → k ≤ x.seeking.depth → get_or y.seeking.whiles k 0 ≡ get_or x.seeking.whiles k 0
  pub found : y.seeking.found ≡ x.seeking.found + length l
  pub kept : (k : ℕ) → k < x.seeking.found → get_or y.places k 0 ≡ get_or x.places k 0
  pub noted_are : Among y.places x.seeking.found l
  pub whiles_length : length y.seeking.whiles ≡ 17
  pub places_length : length y.places ≡ 512

abbrev pub Finds : Statements → Type 0
Finds t = (x : Sought) (p d : ℕ) → Ahead t x p d → Passed (size t) (loops_of p t) x (seek_records (flat t) x) p

-- one stretch after another
passed_both : (n m : ℕ) (l k : List ℕ) (x y z : Sought) (p : ℕ) → Passed n l x y p → Passed m k y z (p + n) → Passed (n + m) (l ++ k) x z p
passed_both n m l k x y z p a b =
    record {
      place = b.place ∙ omega arith;
      depth = b.depth ∙ a.depth;
      whiles = λ i h. b.whiles i (omega (arith, a.depth)) ∙ a.whiles i h;
      found = b.found ∙ simp length-append (omega (arith, a.found));
      kept = λ i h. b.kept i (omega (arith, a.found)) ∙ a.kept i h;
      noted_are = λ i h. noted_both i (simp length-append at h) (dec_le (suc i) (length l));
      whiles_length = b.whiles_length;
      places_length = b.places_length;
    }
  where
    noted_both : (i : ℕ) → i < length l + length k → Dec (suc i ≤ length l) → get_or z.places (x.seeking.found + i) 0 ≡ get_or (l ++ k) i 0
    noted_both i h (yes g) =
        b.kept (x.seeking.found + i) (omega (arith, a.found)) ∙ a.noted_are i g ∙ sym (get_or-append l k 0 i g)
    noted_both i h (no g) =
        let j : ℕ = i - length l in
        let e : x.seeking.found + i ≡ y.seeking.found + j = omega (arith, a.found) in
        let f : i ≡ length l + j = omega arith in
        rw e (b.noted_are j (omega arith)) ∙ sym (ap (λ (w : ℕ). get_or (l ++ k) w 0) f ∙ get_or-append-add l k j 0)

-- nothing was read
pub passed_none : (x : Sought) (p : ℕ) → x.seeking.place ≡ p → length x.seeking.whiles ≡ 17 → length x.places ≡ 512 → Passed 0 [] x x p
passed_none x p e f g =
    record {
      place = e ∙ sym (add-zero p);
      depth = refl;
      whiles = λ k h. refl;
      found = sym (add-zero x.seeking.found);
      kept = λ k h. refl;
      noted_are = λ k h. absurd (not-suc-le-zero h);
      whiles_length = f;
      places_length = g;
    }

-- a record that stands for one record of the list
abbrev pub on : Sought → Sought
on x =
    record {
      seeking = record { place = suc x.seeking.place; depth = x.seeking.depth; whiles = x.seeking.whiles; found = x.seeking.found };
      places = x.places;
    }

module _ (x : Sought) (small : x.seeking.place < 65535) where
  more_is : more x.seeking.place ≡ suc x.seeking.place
  more_is =
      let t : ltb x.seeking.place 65535 ≡ true = lt-ltb x.seeking.place 65535 small in
      let s : x.seeking.place + 1 ≡ suc x.seeking.place = omega arith in
      rw (t, s)

  pub seek_station : seek_record (bare STATION 0) x ≡ on x
  unfolding seek_record sought noted
  seek_station = rw more_is

  seek_skip : seek_record (bare SKIP 0) x ≡ on x
  unfolding seek_record sought noted
  seek_skip = rw more_is

  module _ (r : Record) where
    pub seek_set : r.kind ≡ SET → seek_record r x ≡ on x
    unfolding seek_record sought noted
    seek_set e = rw (e, more_is)

    seek_if : r.kind ≡ IF → seek_record r x ≡ on x
    unfolding seek_record sought noted
    seek_if e = rw (e, more_is)

    seek_await : r.kind ≡ AWAIT → seek_record r x ≡ on x
    unfolding seek_record sought noted
    seek_await e = rw (e, more_is)

    seek_while : r.kind ≡ WHILE → x.seeking.depth < 16
        → seek_record r x
        ≡ record {
          seeking = record {
            place = suc x.seeking.place;
            depth = suc x.seeking.depth;
            whiles = set x.seeking.whiles (suc x.seeking.depth) x.seeking.place;
            found = x.seeking.found;
          };
          places = x.places;
        }
    unfolding seek_record sought noted
    seek_while e l =
        let t : ltb x.seeking.depth 16 ≡ true = lt-ltb x.seeking.depth 16 l in
        let s : x.seeking.depth + 1 ≡ suc x.seeking.depth = omega arith in
        rw (e, more_is, t, s)

seek_else : (x : Sought) → seek_record (bare ELSE 0) x ≡ x
unfolding seek_record sought noted
seek_else x = refl

seek_fi : (x : Sought) → seek_record (bare FI 0) x ≡ x
unfolding seek_record sought noted
seek_fi x = refl

seek_end : (x : Sought) → seek_record (bare END 0) x ≡ x
unfolding seek_record sought noted
seek_end x = refl

seek_od : (x : Sought) → x.seeking.found < 512
    → seek_record (bare OD 0) x
    ≡ record {
      seeking = record { place = x.seeking.place; depth = x.seeking.depth - 1; whiles = x.seeking.whiles; found = suc x.seeking.found };
      places = set x.places x.seeking.found (get_or x.seeking.whiles x.seeking.depth 0);
    }
unfolding seek_record sought noted
seek_od x l =
    let t : ltb x.seeking.found 512 ≡ true = lt-ltb x.seeking.found 512 l in
    let s : x.seeking.found + 1 ≡ suc x.seeking.found = omega arith in
    rw (t, s)

-- one record of the list
pub passed_one : (x : Sought) (p : ℕ) → x.seeking.place ≡ p → length x.seeking.whiles ≡ 17 → length x.places ≡ 512 → Passed 1 [] x (on x) p
passed_one x p e f g =
    record {
      place = omega (arith, e);
      depth = refl;
      whiles = λ k h. refl;
      found = sym (add-zero x.seeking.found);
      kept = λ k h. refl;
      noted_are = λ k h. absurd (not-suc-le-zero h);
      whiles_length = f;
      places_length = g;
    }

-- the part of a loop, from its WHILE to its OD
module _ (r : Record) (u : Statements) (kind : r.kind ≡ WHILE) (hu : Finds u) (x : Sought) (p d : ℕ) (place : x.seeking.place ≡ p)
    (deep : x.seeking.depth ≤ d) (room : d < 16) (fits : Fits (suc d) u) (small : suc (p + size u) < 65535)
    (few : suc (x.seeking.found + length (loops_of (suc p) u)) ≤ 512)
    (whiles_length : length x.seeking.whiles ≡ 17) (places_length : length x.places ≡ 512) where
  entered : Sought
  entered =
      record {
        seeking = record {
          place = suc x.seeking.place;
          depth = suc x.seeking.depth;
          whiles = set x.seeking.whiles (suc x.seeking.depth) x.seeking.place;
          found = x.seeking.found;
        };
        places = x.places;
      }

  through : Sought
  through = seek_records (flat u) entered

  part : Passed (size u) (loops_of (suc p) u) entered through (suc p)
  unfolding entered through
  part =
      hu entered (suc p) (suc d)
      (record {
        place = ap suc place;
        depth = omega arith;
        fits = fits;
        small = omega arith;
        few = omega arith;
        whiles_length = length-set x.seeking.whiles (suc x.seeking.depth) x.seeking.place ∙ whiles_length;
        places_length = places_length;
      })

  -- the WHILE's place was kept
  innermost : get_or through.seeking.whiles through.seeking.depth 0 ≡ p
  unfolding entered
  innermost =
      ap (λ (k : ℕ). get_or through.seeking.whiles k 0) part.depth
      ∙ part.whiles (suc x.seeking.depth) (omega arith)
      ∙ get_or-set_same x.seeking.whiles (suc x.seeking.depth) x.seeking.place 0 (omega arith)
      ∙ place

  left : Sought
  left =
      record {
        seeking = record { place = through.seeking.place; depth = through.seeking.depth - 1; whiles = through.seeking.whiles; found = suc through.seeking.found };
        places = set through.places through.seeking.found (get_or through.seeking.whiles through.seeking.depth 0);
      }

  found_is : through.seeking.found ≡ x.seeking.found + length (loops_of (suc p) u)
  unfolding entered
  found_is = part.found

  passed_loop : Passed (suc (size u)) (loops_of (suc p) u ++ (p ∷ [])) x left p
  unfolding entered left
  passed_loop =
      record {
        place = part.place ∙ omega arith;
        depth = omega (arith, part.depth);
        whiles = λ k h.
            part.whiles k (omega arith)
            ∙ get_or-set_other x.seeking.whiles (suc x.seeking.depth) k x.seeking.place 0 (omega arith);
        found = simp length-append (omega (arith, found_is));
        kept = λ k h.
            get_or-set_other through.places through.seeking.found k (get_or through.seeking.whiles through.seeking.depth 0) 0 (omega (arith, found_is))
            ∙ part.kept k h;
        noted_are = λ k h. at_end k (simp length-append at h) (dec_le (suc k) (length (loops_of (suc p) u)));
        whiles_length = part.whiles_length;
        places_length =
            length-set through.places through.seeking.found (get_or through.seeking.whiles through.seeking.depth 0) ∙ part.places_length;
      }
    where
      at_end : (k : ℕ) → k < length (loops_of (suc p) u) + 1 → Dec (suc k ≤ length (loops_of (suc p) u))
          → get_or (set through.places through.seeking.found (get_or through.seeking.whiles through.seeking.depth 0)) (x.seeking.found + k) 0
          ≡ get_or (loops_of (suc p) u ++ (p ∷ [])) k 0
      at_end k h (yes g) =
          get_or-set_other through.places through.seeking.found (x.seeking.found + k) (get_or through.seeking.whiles through.seeking.depth 0) 0 (omega (arith, found_is))
          ∙ part.noted_are k g
          ∙ sym (get_or-append (loops_of (suc p) u) (p ∷ []) 0 k g)
      at_end k h (no g) =
          let e : k ≡ length (loops_of (suc p) u) = omega arith in
          let f : x.seeking.found + k ≡ through.seeking.found = omega (arith, found_is) in
          rw f (get_or-set_same through.places through.seeking.found (get_or through.seeking.whiles through.seeking.depth 0) 0 (omega (arith, found_is, part.places_length)))
          ∙ innermost
          ∙ sym (rw e (get_or-append_seam (loops_of (suc p) u) p [] 0))

-- the same with the sums written as they come
pub passed_then : {n m N p q : ℕ} {l k L : List ℕ} {x y z : Sought} → q ≡ p + n → N ≡ n + m → L ≡ l ++ k
    → Passed n l x y p → Passed m k y z q → Passed N L x z p
passed_then {n} {m} {N} {p} {q} {l} {k} {L} {x} {y} {z} e f g a b = rw (f, g) (passed_both n m l k x y z p a (rw e at b))

-- what holds further on
module _ (t : Statements) (x y : Sought) (p q n : ℕ) (l : List ℕ) (a : Passed n l x y p) where
  pub ahead_then : (d : ℕ) → q ≡ p + n → x.seeking.depth ≤ d → Fits d t → q + size t < 65535
      → x.seeking.found + length l + length (loops_of q t) ≤ 512 → Ahead t y q d
  ahead_then d e f g h i =
      record {
        place = a.place ∙ sym e;
        depth = omega (arith, a.depth);
        fits = g;
        small = h;
        few = omega (arith, a.found);
        whiles_length = a.whiles_length;
        places_length = a.places_length;
      }

-- a record that stands for one record of the list, and then statements
find_after : (t rest : Statements) (x : Sought) (p d : ℕ) → Finds rest → size t ≡ suc (size rest) → loops_of p t ≡ loops_of (suc p) rest → Fits d rest
    → Ahead t x p d → Passed (size t) (loops_of p t) x (seek_records (flat rest) (on x)) p
find_after t rest x p d hr e f g h =
    let a = passed_one x p h.place h.whiles_length h.places_length in
    let k : length (loops_of p t) ≡ length (loops_of (suc p) rest) = ap length f in
    passed_then {n = 1} (omega arith) (e ∙ omega arith) f a
    (hr (on x) (suc p) d
    (ahead_then rest x (on x) p (suc p) 1 [] a d (omega arith) h.depth g (omega (arith, e, h.small)) (omega (arith, k, h.few))))

-- the records of a statement, one part after the other
pub none_chain : (x : Sought) → seek_records [] x ≡ x
unfolding seek_records
none_chain x = refl

pub first_chain : (r : Record) (rs : List Record) (x : Sought) → seek_records (r ∷ rs) x ≡ seek_records rs (seek_record r x)
unfolding seek_records
first_chain r rs x = refl

part_chain : (u rest : Statements) (r close : Record) (x : Sought)
    → seek_records (r ∷ (flat u ++ (close ∷ flat rest))) x ≡ seek_records (flat rest) (seek_record close (seek_records (flat u) (seek_record r x)))
unfolding seek_records
part_chain u rest r close x = seek_append (flat u) (close ∷ flat rest) (seek_record r x)

branch_chain : (u v rest : Statements) (r : Record) (x : Sought)
    → seek_records (r ∷ (flat u ++ (bare ELSE 0 ∷ (flat v ++ (bare FI 0 ∷ flat rest))))) x
    ≡ seek_records (flat rest) (seek_record (bare FI 0) (seek_records (flat v) (seek_record (bare ELSE 0) (seek_records (flat u) (seek_record r x)))))
unfolding seek_records
branch_chain u v rest r x =
    seek_append (flat u) (bare ELSE 0 ∷ (flat v ++ (bare FI 0 ∷ flat rest))) (seek_record r x)
    ∙ seek_append (flat v) (bare FI 0 ∷ flat rest) (seek_record (bare ELSE 0) (seek_records (flat u) (seek_record r x)))

find_branch : (r : Record) (u v rest : Statements) → r.kind ≡ IF → Finds u → Finds v → Finds rest → Finds (branch r u v rest)
unfolding flat size loops_of
find_branch r u v rest k hu hv hr x p d h =
    let at_v : ℕ = suc p + size u in
    let at_rest : ℕ = suc p + size u + size v in
    let lu : List ℕ = loops_of (suc p) u in
    let lv : List ℕ = loops_of at_v v in
    let lr : List ℕ = loops_of at_rest rest in
    let n : length (lu ++ (lv ++ lr)) ≡ length lu + (length lv + length lr) = simp length-append in
    let y1 : Sought = seek_records (flat u) (on x) in
    let y2 : Sought = seek_records (flat v) y1 in
    let a0 = passed_one x p h.place h.whiles_length h.places_length in
    let a1 : Passed (suc (size u)) lu x y1 p =
    passed_then {n = 1} {q = suc p} {l = []} (omega arith) (omega arith) refl a0
    (hu (on x) (suc p) (suc d) (ahead_then u x (on x) p (suc p) 1 [] a0 (suc d) (omega arith) (omega (arith, h.depth)) h.fits.1 (omega (arith, h.small)) (omega (arith, h.few, n)))) in
    let a2 : Passed (suc (size u) + size v) (lu ++ lv) x y2 p =
    passed_then {n = suc (size u)} {q = at_v} (omega arith) refl refl a1
    (hv y1 at_v (suc d) (ahead_then v x y1 p at_v (suc (size u)) lu a1 (suc d) (omega arith) (omega (arith, h.depth)) h.fits.2 (omega (arith, h.small)) (omega (arith, h.few, n)))) in
    let m : length (lu ++ lv) ≡ length lu + length lv = simp length-append in
    rw (branch_chain u v rest r x, seek_if x (omega (arith, h.place, h.small)) r k, seek_else y1, seek_fi y2)
    (passed_then {n = suc (size u) + size v} {q = at_rest} (omega arith) (omega arith) (sym (append_assoc lu lv lr)) a2
    (hr y2 at_rest d (ahead_then rest x y2 p at_rest (suc (size u) + size v) (lu ++ lv) a2 d (omega arith) h.depth h.fits.3 (omega (arith, h.small)) (omega (arith, h.few, n, m)))))

find_await : (r : Record) (u rest : Statements) → r.kind ≡ AWAIT → Finds u → Finds rest → Finds (await r u rest)
unfolding flat size loops_of
find_await r u rest k hu hr x p d h =
    let at_rest : ℕ = suc p + size u in
    let lu : List ℕ = loops_of (suc p) u in
    let lr : List ℕ = loops_of at_rest rest in
    let n : length (lu ++ lr) ≡ length lu + length lr = simp length-append in
    let y1 : Sought = seek_records (flat u) (on x) in
    let a0 = passed_one x p h.place h.whiles_length h.places_length in
    let a1 : Passed (suc (size u)) lu x y1 p =
    passed_then {n = 1} {q = suc p} {l = []} (omega arith) (omega arith) refl a0
    (hu (on x) (suc p) (suc d) (ahead_then u x (on x) p (suc p) 1 [] a0 (suc d) (omega arith) (omega (arith, h.depth)) h.fits.1 (omega (arith, h.small)) (omega (arith, h.few, n)))) in
    rw (part_chain u rest r (bare END 0) x, seek_await x (omega (arith, h.place, h.small)) r k, seek_end y1)
    (passed_then {n = suc (size u)} {m = size rest} {q = at_rest} (omega arith) (omega arith) refl a1
    (hr y1 at_rest d (ahead_then rest x y1 p at_rest (suc (size u)) lu a1 d (omega arith) h.depth h.fits.2 (omega (arith, h.small)) (omega (arith, h.few, n)))))

find_loop : (r : Record) (u rest : Statements) → r.kind ≡ WHILE → Finds u → Finds rest → Finds (loop r u rest)
unfolding flat size loops_of entered through left
find_loop r u rest k hu hr x p d h =
    let at_rest : ℕ = suc p + size u in
    let lu : List ℕ = loops_of (suc p) u in
    let lr : List ℕ = loops_of at_rest rest in
    let n : length (lu ++ (p ∷ lr)) ≡ suc (length lu + length lr) = simp length-append (omega arith) in
    let m : length (lu ++ (p ∷ [])) ≡ suc (length lu) = simp length-append (omega arith) in
    let few : suc (x.seeking.found + length lu) ≤ 512 = omega (arith, h.few, n) in
    let small : suc (p + size u) < 65535 = omega (arith, h.small) in
    let a1 = passed_loop r u k hu x p d h.place h.depth h.fits.0 h.fits.1 small few h.whiles_length h.places_length in
    let y0 : Sought = entered r u k hu x p d h.place h.depth h.fits.0 h.fits.1 small few h.whiles_length h.places_length in
    let y1 : Sought = seek_records (flat u) y0 in
    let f = found_is r u k hu x p d h.place h.depth h.fits.0 h.fits.1 small few h.whiles_length h.places_length in
    let y2 : Sought = left r u k hu x p d h.place h.depth h.fits.0 h.fits.1 small few h.whiles_length h.places_length in
    rw (part_chain u rest r (bare OD 0) x, seek_while x (omega (arith, h.place, h.small)) r k (omega (arith, h.depth, h.fits.0)), seek_od y1 (omega (arith, f)))
    (passed_then {n = suc (size u)} {m = size rest} {q = at_rest} (omega arith) (omega arith) (sym (append_assoc lu (p ∷ []) lr)) a1
    (hr y2 at_rest d (ahead_then rest x y2 p at_rest (suc (size u)) (lu ++ (p ∷ [])) a1 d (omega arith) h.depth h.fits.2 (omega (arith, h.small)) (omega (arith, h.few, n, m)))))

pub find_all : {b : Bool} {t : Statements} → Proper b t → Finds t
unfolding flat size loops_of
find_all end x p d h = rw (none_chain x) (passed_none x p h.place h.whiles_length h.places_length)
find_all (skips {rest = rest} c) x p d h =
    rw (first_chain (bare SKIP 0) (flat rest) x, seek_skip x (omega (arith, h.place, h.small))) (find_after (skip rest) rest x p d (find_all c) refl refl h.fits h)
find_all (assigns {r = r} {rest = rest} k c) x p d h =
    rw (first_chain r (flat rest) x, seek_set x (omega (arith, h.place, h.small)) r k) (find_after (assign r rest) rest x p d (find_all c) refl refl h.fits h)
find_all (branches {r = r} {x = u} {y = v} {rest = rest} k s c t e f) x p d h = find_branch r u v rest k (find_all c) (find_all e) (find_all f) x p d h
find_all (loops {r = r} {x = u} {rest = rest} k s c f) x p d h = find_loop r u rest k (find_all c) (find_all f) x p d h
find_all (awaits {r = r} {x = u} {rest = rest} k s c f) x p d h = find_await r u rest k (find_all c) (find_all f) x p d h
