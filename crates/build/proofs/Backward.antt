-- Reading statements from their last record to their first lays out the records that the rules say, and leaves what is open around them
-- as it was. By induction on the statements. Assumes nothing.
use Rattle.std.specs.Prelude.{if◌then◌else◌}
use mathlib.Core.Path.{◌≡◌, refl, sym, ap, ◌∙◌}
use mathlib.Core.Bool.{Bool, true, false}
use mathlib.Core.List.{List, [], ◌∷◌, ◌++◌}
use Prim.Native.Nat.{ℕ, suc, ◌+◌, ◌*◌, ◌-◌, ◌≤◌, ◌<◌}
use native.Mathlib.Nat.{add-zero}
use native.Mathlib.Omega.{arith}
use lib.Dec.{eqb, ltb}
use lib.ListN.{length, get_or, length-set, length-append}
use lib.Seq.{get_or-set_same, get_or-set_other, get_or-append_seam}
use borrow.Author.Tests.{lt-ltb}
use Rattle.rules.specs.Words.{written}
use Rattle.rules.specs.Names.{SKIP, SET, IF, ELSE, FI, WHILE, OD, AWAIT, END, no_station}
use Rattle.rules.specs.Records.{Record, ListRecord}
use Rattle.rules.specs.Trees.{Statements, nothing, skip, assign, branch, loop, await, size}
use Rattle.rules.specs.Build.{bare, listed, start_of, laid, bytes_of}
use Rattle.reading.specs.Reading.{flat, Proper, end, skips, assigns, branches, loops, awaits}
use Rattle.built.proofs.Bytes.{length_bytes_of}
use Rattle.built.proofs.Lengths.{length_laid}
use Rattle.layout.specs.Layout.{stepped, pushed, switched, popped}
use Rattle.laying.specs.Laid.{Laid, put_at, lay_record, lay_records}
use Rattle.laws.proofs.Written.{written_none, length_written}
use Rattle.build.proofs.Written.{records_before, record_before}
use Rattle.build.proofs.Parts.{Fits, loops_of, Among, among_left, among_right}
use Rattle.build.proofs.Records as records

pub over_append : (places : List ℕ) (a b : List Record) (x : Laid) → lay_records places (a ++ b) x ≡ lay_records places a (lay_records places b x)
unfolding lay_records
over_append places [] b x = refl
over_append places (r ∷ a) b x = ap (lay_record places r) (over_append places a b x)

-- what holds before statements are read, which are in a body or not, stand in the list from the place p on, and are followed by `exit`
pub record Before (b : Bool) (t : Statements) (places : List ℕ) (x : Laid) (p exit q : ℕ) : Type 0 where
  pub place : x.state.place ≡ p + size t
  pub next : x.state.next ≡ exit
  pub numbered : eqb x.state.station no_station ≡ false
  pub inside : x.state.inside ≡ (if b then 1 else 0)
  pub loops : x.state.loops ≡ q + length (loops_of p t)
  pub found : Among places q (loops_of p t)
  pub fits : Fits x.state.depth t
  pub after_length : length x.state.after ≡ 17
  pub second_length : length x.state.second ≡ 17
  pub room : 16 * (p + size t) ≤ length x.buffer

-- what holds after
pub record Done (t : Statements) (x y : Laid) (p exit q : ℕ) : Type 0 where
  pub place : y.state.place ≡ p
  pub next : y.state.next ≡ start_of p exit t
  pub station : y.state.station ≡ x.state.station
  pub inside : y.state.inside ≡ x.state.inside
  pub loops : y.state.loops ≡ q
  pub depth : y.state.depth ≡ x.state.depth
  pub after : (k : ℕ) → k ≤ x.state.depth → get_or y.state.after k 0 ≡ get_or x.state.after k 0
  pub second : (k : ℕ) → k ≤ x.state.depth → get_or y.state.second k 0 ≡ get_or x.state.second k 0
  pub starts : y.state.starts ≡ x.state.starts
  pub after_length : length y.state.after ≡ 17
  pub second_length : length y.state.second ≡ 17
  pub buffer : y.buffer ≡ written x.buffer (16 * p) (bytes_of (laid x.state.station x.state.inside p exit t))

-- nothing is read
done_nothing : (b : Bool) (places : List ℕ) (x : Laid) (p exit q : ℕ) → Before b nothing places x p exit q → Done nothing x x p exit q
unfolding laid size loops_of bytes_of
done_nothing b places x p exit q h =
    record {
      place = h.place ∙ add-zero p;
      next = h.next;
      station = refl;
      inside = refl;
      loops = h.loops ∙ add-zero q;
      depth = refl;
      after = λ k l. refl;
      second = λ k l. refl;
      starts = refl;
      after_length = h.after_length;
      second_length = h.second_length;
      buffer = sym (written_none x.buffer (16 * p));
    }

-- SKIP and SET: one record is laid before the rest
module _ (places : List ℕ) (x y : Laid) (p exit q : ℕ) (rest : Statements) (room : 16 * (suc p + size rest) ≤ length x.buffer)
    (d : Done rest x y (suc p) exit q) where
  step_buffer : (r : Record) → put_at (y.state.place - 1) (listed r y.state.station y.state.inside y.state.next 0) y.buffer
      ≡ written x.buffer (16 * p)
      (bytes_of (listed r x.state.station x.state.inside (start_of (suc p) exit rest) 0 ∷ laid x.state.station x.state.inside (suc p) exit rest))
  step_buffer r =
      let e : y.state.place - 1 ≡ p = omega (arith, d.place) in
      let l = length_laid x.state.station x.state.inside (suc p) exit rest in
      rw (e, d.station, d.inside, d.next, d.buffer)
      (record_before x.buffer p (listed r x.state.station x.state.inside (start_of (suc p) exit rest) 0)
      (laid x.state.station x.state.inside (suc p) exit rest) (omega arith))

  module _ (numbered : eqb x.state.station no_station ≡ false) where
    same : eqb y.state.station no_station ≡ false
    same = rw d.station numbered

    -- whichever statement it is, its record is laid like this
    done_step : (t : Statements) (r : Record)
        → lay_record places r y
        ≡ record { state = stepped y.state; buffer = put_at (y.state.place - 1) (listed r y.state.station y.state.inside y.state.next 0) y.buffer }
        → start_of p exit t ≡ p
        → laid x.state.station x.state.inside p exit t
        ≡ listed r x.state.station x.state.inside (start_of (suc p) exit rest) 0 ∷ laid x.state.station x.state.inside (suc p) exit rest
        → Done t x (lay_record places r y) p exit q
    unfolding stepped
    done_step t r e s l =
        rw e
        (record {
          place = omega (arith, d.place);
          next = omega (arith, d.place, s);
          station = d.station;
          inside = d.inside;
          loops = d.loops;
          depth = d.depth;
          after = d.after;
          second = d.second;
          starts = d.starts;
          after_length = d.after_length;
          second_length = d.second_length;
          buffer = rw l (step_buffer r);
        })

    done_skip : Done (skip rest) x (lay_record places (bare SKIP 0) y) p exit q
    unfolding laid
    done_skip = done_step (skip rest) (bare SKIP 0) (records.lay_skip places y same) refl refl

    done_assign : (r : Record) → r.kind ≡ SET → Done (assign r rest) x (lay_record places r y) p exit q
    unfolding laid
    done_assign r e = done_step (assign r rest) r (records.lay_set places y same r e) refl refl

-- a part opens in y, which came from x with the same parts open: one more is open, and what was next comes after it
record Opened (x y : Laid) (next inside left : ℕ) : Type 0 where
  place : y.state.place ≡ x.state.place
  next_is : y.state.next ≡ next
  station : y.state.station ≡ x.state.station
  inside_is : y.state.inside ≡ inside
  loops_are : y.state.loops ≡ left
  depth : y.state.depth ≡ suc x.state.depth
  after : (k : ℕ) → k ≤ x.state.depth → get_or y.state.after k 0 ≡ get_or x.state.after k 0
  after_top : get_or y.state.after (suc x.state.depth) 0 ≡ x.state.next
  second : y.state.second ≡ x.state.second
  starts : y.state.starts ≡ x.state.starts
  after_length : length y.state.after ≡ 17
  buffer : y.buffer ≡ x.buffer

opened : (x : Laid) (next inside left : ℕ) → x.state.depth < 16 → length x.state.after ≡ 17
    → Opened x (record { state = pushed next inside left x.state; buffer = x.buffer }) next inside left
unfolding pushed
opened x next inside left l n =
    let t : ltb x.state.depth 16 ≡ true = lt-ltb x.state.depth 16 l in
    let s : x.state.depth + 1 ≡ suc x.state.depth = omega arith in
    record {
      place = refl;
      next_is = refl;
      station = refl;
      inside_is = refl;
      loops_are = refl;
      depth = rw (t, s) refl;
      after = λ k m. rw t (get_or-set_other x.state.after (x.state.depth + 1) k x.state.next 0 (omega arith));
      after_top = rw (t, s) (get_or-set_same x.state.after (suc x.state.depth) x.state.next 0 (omega arith));
      second = refl;
      starts = refl;
      after_length = rw t (length-set x.state.after (x.state.depth + 1) x.state.next ∙ n);
      buffer = refl;
    }

-- reading statements does what Done says, wherever they stand
abbrev Reads : Bool → Statements → Type 0
Reads b t =
    (places : List ℕ) (x : Laid) (p exit q : ℕ) → Before b t places x p exit q → Done t x (lay_records places (flat t) x) p exit q

-- IF: the rest, FI, the second branch, ELSE, the first branch, and the record itself
module _ (b : Bool) (r : Record) (u v rest : Statements) (kind : r.kind ≡ IF) (hu : Reads b u) (hv : Reads b v) (hr : Reads b rest)
    (places : List ℕ) (x : Laid) (p exit q : ℕ) (h : Before b (branch r u v rest) places x p exit q) where
  at_v : ℕ
  at_v = suc p + size u

  at_rest : ℕ
  at_rest = suc p + size u + size v

  next : ℕ
  next = start_of (suc p + size u + size v) exit rest

  lu : List ℕ
  lu = loops_of (suc p) u

  lv : List ℕ
  lv = loops_of (suc p + size u) v

  lr : List ℕ
  lr = loops_of (suc p + size u + size v) rest

  y1 : Laid
  y1 = lay_records places (flat rest) x

  d1 : Done rest x y1 at_rest exit (q + length lu + length lv)
  unfolding size loops_of lu lv lr y1 at_rest
  d1 =
      hr places x at_rest exit (q + length lu + length lv)
      (record {
        place = omega (arith, h.place);
        next = h.next;
        numbered = h.numbered;
        inside = h.inside;
        loops = h.loops ∙ simp length-append (omega arith);
        found = among_right places (q + length lu) lv lr (among_right places q lu (lv ++ lr) h.found);
        fits = h.fits.3;
        after_length = h.after_length;
        second_length = h.second_length;
        room = omega (arith, h.room);
      })

  y2 : Laid
  y2 = record { state = pushed y1.state.next y1.state.inside y1.state.loops y1.state; buffer = y1.buffer }

  deep : y1.state.depth < 16
  deep = omega (arith, d1.depth, h.fits.0)

  d2 : Opened y1 y2 y1.state.next y1.state.inside y1.state.loops
  unfolding y2
  d2 = opened y1 y1.state.next y1.state.inside y1.state.loops deep d1.after_length

  y3 : Laid
  y3 = lay_records places (flat v) y2

  -- one more part is open than in x
  depth_2 : y2.state.depth ≡ suc x.state.depth
  depth_2 = d2.depth ∙ ap suc d1.depth

  room_1 : length y1.buffer ≡ length x.buffer
  unfolding at_rest size
  room_1 =
      let es = laid x.state.station x.state.inside at_rest exit rest in
      let l = length_laid x.state.station x.state.inside at_rest exit rest in
      let k = length_bytes_of es in
      rw d1.buffer (length_written x.buffer (16 * at_rest) (bytes_of es) (omega (arith, h.room)))

  d3 : Done v y2 y3 at_v next (q + length lu)
  unfolding size loops_of lu lv lr at_rest at_v next y3
  d3 =
      hv places y2 at_v next (q + length lu)
      (record {
        place = d2.place ∙ d1.place;
        next = d2.next_is ∙ d1.next;
        numbered = rw (d2.station, d1.station) h.numbered;
        inside = d2.inside_is ∙ d1.inside ∙ h.inside;
        loops = d2.loops_are ∙ d1.loops;
        found = among_left places (q + length lu) lv lr (among_right places q lu (lv ++ lr) h.found);
        fits = rw depth_2 h.fits.2;
        after_length = d2.after_length;
        second_length = rw d2.second d1.second_length;
        room = omega (arith, h.room, room_1, ap length d2.buffer);
      })

  y4 : Laid
  y4 = record { state = switched y3.state; buffer = y3.buffer }

  depth_3 : y3.state.depth ≡ suc x.state.depth
  depth_3 = d3.depth ∙ depth_2

  -- what comes after the second branch was kept
  kept : get_or y3.state.after (suc x.state.depth) 0 ≡ next
  unfolding at_rest next
  kept =
      d3.after (suc x.state.depth) (omega (arith, depth_2))
      ∙ ap (λ (k : ℕ). get_or y2.state.after (suc k) 0) (sym d1.depth)
      ∙ d2.after_top
      ∙ d1.next

  room_3 : length y3.buffer ≡ length x.buffer
  unfolding at_rest at_v size
  room_3 =
      let es = laid y2.state.station y2.state.inside at_v next v in
      let l = length_laid y2.state.station y2.state.inside at_v next v in
      let k = length_bytes_of es in
      rw d3.buffer (length_written y2.buffer (16 * at_v) (bytes_of es) (omega (arith, h.room, room_1, ap length d2.buffer)))
      ∙ ap length d2.buffer
      ∙ room_1

  y5 : Laid
  y5 = lay_records places (flat u) y4

  station_3 : y3.state.station ≡ x.state.station
  station_3 = d3.station ∙ d2.station ∙ d1.station

  inside_3 : y3.state.inside ≡ x.state.inside
  inside_3 = d3.inside ∙ d2.inside_is ∙ d1.inside

  d5 : Done u y4 y5 (suc p) next q
  unfolding size loops_of lu lv lr at_rest at_v y4 y5 switched
  d5 =
      hu places y4 (suc p) next q
      (record {
        place = d3.place;
        next = ap (λ (k : ℕ). get_or y3.state.after k 0) depth_3 ∙ kept;
        numbered = rw station_3 h.numbered;
        inside = inside_3 ∙ h.inside;
        loops = d3.loops;
        found = among_left places q lu (lv ++ lr) h.found;
        fits = rw depth_3 h.fits.1;
        after_length = d3.after_length;
        second_length = length-set y3.state.second y3.state.depth y3.state.next ∙ d3.second_length;
        room = omega (arith, h.room, room_3);
      })

  depth_5 : y5.state.depth ≡ suc x.state.depth
  unfolding y4 switched
  depth_5 = d5.depth ∙ depth_3

  station_5 : y5.state.station ≡ x.state.station
  unfolding y4 switched
  station_5 = d5.station ∙ station_3

  inside_5 : y5.state.inside ≡ x.state.inside
  unfolding y4 switched
  inside_5 = d5.inside ∙ inside_3

  -- where the second branch starts was kept
  second_start : get_or y5.state.second y5.state.depth 0 ≡ start_of at_v next v
  unfolding y4 switched
  second_start =
      ap (λ (k : ℕ). get_or y5.state.second k 0) d5.depth
      ∙ d5.second y3.state.depth (omega arith)
      ∙ get_or-set_same y3.state.second y3.state.depth y3.state.next 0 (omega (arith, d3.second_length, depth_3, h.fits.0))
      ∙ d3.next

  su : List ListRecord
  su = laid x.state.station x.state.inside (suc p) next u

  sv : List ListRecord
  sv = laid x.state.station x.state.inside at_v next v

  sr : List ListRecord
  sr = laid x.state.station x.state.inside at_rest exit rest

  buffer_3 : y3.buffer ≡ written x.buffer (16 * at_v) (bytes_of (sv ++ sr))
  unfolding sv sr at_v at_rest size
  buffer_3 =
      let l = length_laid x.state.station x.state.inside at_v next v in
      let k = length_laid x.state.station x.state.inside at_rest exit rest in
      d3.buffer
      ∙ rw (d2.station, d2.inside_is, d2.buffer, d1.station, d1.inside, d1.buffer)
      (records_before x.buffer at_v at_rest sv sr (omega arith) (omega (arith, h.room)))

  buffer_5 : y5.buffer ≡ written x.buffer (16 * suc p) (bytes_of (su ++ (sv ++ sr)))
  unfolding y4 switched su sv sr at_v at_rest size
  buffer_5 =
      let l = length_laid x.state.station x.state.inside (suc p) next u in
      let m = length_laid x.state.station x.state.inside at_v next v in
      let k = length_laid x.state.station x.state.inside at_rest exit rest in
      let n : length (sv ++ sr) ≡ size v + size rest = simp length-append (omega arith) in
      d5.buffer
      ∙ rw (station_3, inside_3, buffer_3)
      (records_before x.buffer (suc p) at_v su (sv ++ sr) (omega arith) (omega (arith, h.room)))

  own : ListRecord
  own = listed r x.state.station x.state.inside (start_of (suc p) next u) (start_of at_v next v)

  buffer_6 : put_at (y5.state.place - 1) (listed r y5.state.station y5.state.inside y5.state.next (get_or y5.state.second y5.state.depth 0)) y5.buffer
      ≡ written x.buffer (16 * p) (bytes_of (own ∷ (su ++ (sv ++ sr))))
  unfolding own su sv sr at_v at_rest size
  buffer_6 =
      let e : y5.state.place - 1 ≡ p = omega (arith, d5.place) in
      let l = length_laid x.state.station x.state.inside (suc p) next u in
      let m = length_laid x.state.station x.state.inside at_v next v in
      let k = length_laid x.state.station x.state.inside at_rest exit rest in
      let n : length (su ++ (sv ++ sr)) ≡ size u + (size v + size rest) = simp length-append (omega arith) in
      rw (e, station_5, inside_5, d5.next, second_start, buffer_5)
      (record_before x.buffer p own (su ++ (sv ++ sr)) (omega (arith, h.room)))

  done_branch : Done (branch r u v rest) x (lay_record places r y5) p exit q
  unfolding popped laid y4 switched own su sv sr at_v at_rest next
  done_branch =
      rw (records.lay_if places y5 (rw station_5 h.numbered) r kind)
      (record {
        place = omega (arith, d5.place);
        next = omega (arith, d5.place);
        station = station_5;
        inside = inside_5;
        loops = d5.loops;
        depth = omega (arith, depth_5);
        after = λ k l. d5.after k (omega (arith, depth_3)) ∙ d3.after k (omega (arith, depth_2)) ∙ d2.after k (omega (arith, d1.depth)) ∙ d1.after k l;
        second = λ k l.
            d5.second k (omega (arith, depth_3))
            ∙ get_or-set_other y3.state.second y3.state.depth k y3.state.next 0 (omega (arith, depth_3))
            ∙ d3.second k (omega (arith, depth_2))
            ∙ ap (λ (l : List ℕ). get_or l k 0) d2.second
            ∙ d1.second k l;
        starts = d5.starts ∙ d3.starts ∙ d2.starts ∙ d1.starts;
        after_length = d5.after_length;
        second_length = d5.second_length;
        buffer = buffer_6;
      })

-- the records of an IF, one part after the other
branch_chain : (places : List ℕ) (u v rest : Statements) (x : Laid)
    → lay_records places (flat u ++ (bare ELSE 0 ∷ (flat v ++ (bare FI 0 ∷ flat rest)))) x
    ≡ lay_records places (flat u)
    (lay_record places (bare ELSE 0) (lay_records places (flat v) (lay_record places (bare FI 0) (lay_records places (flat rest) x))))
unfolding lay_records
branch_chain places u v rest x =
    over_append places (flat u) (bare ELSE 0 ∷ (flat v ++ (bare FI 0 ∷ flat rest))) x
    ∙ ap (λ (y : Laid). lay_records places (flat u) (lay_record places (bare ELSE 0) y)) (over_append places (flat v) (bare FI 0 ∷ flat rest) x)

-- the records of a WHILE or an AWAIT after its own, with the closing record between
part_chain : (places : List ℕ) (u rest : Statements) (close : Record) (x : Laid)
    → lay_records places (flat u ++ (close ∷ flat rest)) x
    ≡ lay_records places (flat u) (lay_record places close (lay_records places (flat rest) x))
unfolding lay_records
part_chain places u rest close x = over_append places (flat u) (close ∷ flat rest) x

-- what holds before a WHILE or an AWAIT with one part and a rest is read, where q1 loops are still to come at its closing record
record Around (b : Bool) (u rest : Statements) (places : List ℕ) (x : Laid) (p exit q q1 : ℕ) : Type 0 where
  place : x.state.place ≡ suc p + size u + size rest
  next : x.state.next ≡ exit
  numbered : eqb x.state.station no_station ≡ false
  inside : x.state.inside ≡ (if b then 1 else 0)
  left : x.state.loops ≡ q1 + length (loops_of (suc p + size u) rest)
  found_rest : Among places q1 (loops_of (suc p + size u) rest)
  found_part : Among places q (loops_of (suc p) u)
  deep : x.state.depth < 16
  fits_part : Fits (suc x.state.depth) u
  fits_rest : Fits x.state.depth rest
  after_length : length x.state.after ≡ 17
  second_length : length x.state.second ≡ 17
  room : 16 * (suc p + size u + size rest) ≤ length x.buffer

-- WHILE and AWAIT: the rest, the closing record, and the one part, which is in a body or not; n comes after its last step
module _ (b c : Bool) (u rest : Statements) (hu : Reads c u) (hr : Reads b rest) (places : List ℕ) (x : Laid) (p exit q q1 n : ℕ)
    (a : Around b u rest places x p exit q q1) where
  z1 : Laid
  z1 = lay_records places (flat rest) x

  e1 : Done rest x z1 (suc p + size u) exit q1
  unfolding z1
  e1 =
      hr places x (suc p + size u) exit q1
      (record {
        place = a.place;
        next = a.next;
        numbered = a.numbered;
        inside = a.inside;
        loops = a.left;
        found = a.found_rest;
        fits = a.fits_rest;
        after_length = a.after_length;
        second_length = a.second_length;
        room = a.room;
      })

  z2 : Laid
  z2 = record { state = pushed n (if c then 1 else 0) (q + length (loops_of (suc p) u)) z1.state; buffer = z1.buffer }

  e2 : Opened z1 z2 n (if c then 1 else 0) (q + length (loops_of (suc p) u))
  unfolding z2
  e2 = opened z1 n (if c then 1 else 0) (q + length (loops_of (suc p) u)) (omega (arith, e1.depth, a.deep)) e1.after_length

  depth_z2 : z2.state.depth ≡ suc x.state.depth
  depth_z2 = e2.depth ∙ ap suc e1.depth

  room_z1 : length z1.buffer ≡ length x.buffer
  room_z1 =
      let es = laid x.state.station x.state.inside (suc p + size u) exit rest in
      let l = length_laid x.state.station x.state.inside (suc p + size u) exit rest in
      let k = length_bytes_of es in
      rw e1.buffer (length_written x.buffer (16 * (suc p + size u)) (bytes_of es) (omega (arith, a.room)))

  z3 : Laid
  z3 = lay_records places (flat u) z2

  e3 : Done u z2 z3 (suc p) n q
  unfolding z3
  e3 =
      hu places z2 (suc p) n q
      (record {
        place = e2.place ∙ e1.place;
        next = e2.next_is;
        numbered = rw (e2.station, e1.station) a.numbered;
        inside = e2.inside_is;
        loops = e2.loops_are;
        found = a.found_part;
        fits = rw depth_z2 a.fits_part;
        after_length = e2.after_length;
        second_length = rw e2.second e1.second_length;
        room = omega (arith, a.room, room_z1, ap length e2.buffer);
      })

  depth_z3 : z3.state.depth ≡ suc x.state.depth
  depth_z3 = e3.depth ∙ depth_z2

  station_z3 : z3.state.station ≡ x.state.station
  station_z3 = e3.station ∙ e2.station ∙ e1.station

  -- what comes after the statement was kept
  coming : get_or z3.state.after z3.state.depth 0 ≡ start_of (suc p + size u) exit rest
  coming =
      ap (λ (k : ℕ). get_or z3.state.after k 0) depth_z3
      ∙ e3.after (suc x.state.depth) (omega (arith, depth_z2))
      ∙ ap (λ (k : ℕ). get_or z2.state.after (suc k) 0) (sym e1.depth)
      ∙ e2.after_top
      ∙ e1.next

  part_laid : List ListRecord
  part_laid = laid x.state.station (if c then 1 else 0) (suc p) n u

  rest_laid : List ListRecord
  rest_laid = laid x.state.station x.state.inside (suc p + size u) exit rest

  length_both : length (part_laid ++ rest_laid) ≡ size u + size rest
  unfolding part_laid rest_laid
  length_both =
      let l = length_laid x.state.station (if c then 1 else 0) (suc p) n u in
      let k = length_laid x.state.station x.state.inside (suc p + size u) exit rest in
      simp length-append (omega arith)

  buffer_z3 : z3.buffer ≡ written x.buffer (16 * suc p) (bytes_of (part_laid ++ rest_laid))
  unfolding part_laid rest_laid
  buffer_z3 =
      let l = length_laid x.state.station (if c then 1 else 0) (suc p) n u in
      let k = length_laid x.state.station x.state.inside (suc p + size u) exit rest in
      e3.buffer
      ∙ rw (e2.station, e2.inside_is, e2.buffer, e1.station, e1.buffer)
      (records_before x.buffer (suc p) (suc p + size u) part_laid rest_laid (omega arith) (omega (arith, a.room)))

  -- the opening record, whatever its first target, is laid before its part
  buffer_z4 : (r : Record) (i t1 : ℕ)
      → put_at (z3.state.place - 1) (listed r z3.state.station i t1 (get_or z3.state.after z3.state.depth 0)) z3.buffer
      ≡ written x.buffer (16 * p) (bytes_of (listed r x.state.station i t1 (start_of (suc p + size u) exit rest) ∷ (part_laid ++ rest_laid)))
  buffer_z4 r i t1 =
      let e : z3.state.place - 1 ≡ p = omega (arith, e3.place) in
      rw (e, station_z3, coming, buffer_z3)
      (record_before x.buffer p (listed r x.state.station i t1 (start_of (suc p + size u) exit rest)) (part_laid ++ rest_laid) (omega (arith, a.room, length_both)))

  -- the part is no longer open once its opening record is laid
  done_round : (t : Statements) (inside : ℕ) (buffer : List ℕ) → start_of p exit t ≡ p → inside ≡ x.state.inside
      → buffer ≡ written x.buffer (16 * p) (bytes_of (laid x.state.station x.state.inside p exit t))
      → Done t x (record { state = popped inside z3.state; buffer = buffer }) p exit q
  unfolding popped
  done_round t inside buffer e f g =
      record {
        place = omega (arith, e3.place);
        next = omega (arith, e3.place);
        station = station_z3;
        inside = f;
        loops = e3.loops;
        depth = omega (arith, depth_z3);
        after = λ k l. e3.after k (omega (arith, depth_z2)) ∙ e2.after k (omega (arith, e1.depth)) ∙ e1.after k l;
        second = λ k l. e3.second k (omega (arith, depth_z2)) ∙ ap (λ (l : List ℕ). get_or l k 0) e2.second ∙ e1.second k l;
        starts = e3.starts ∙ e2.starts ∙ e1.starts;
        after_length = e3.after_length;
        second_length = e3.second_length;
        buffer = g;
      }

  -- from what the closing record and the opening record do
  done_whole : (t : Statements) (r close : Record) (inside i t1 : ℕ) → lay_record places close z1 ≡ z2
      → lay_record places r z3
      ≡ record { state = popped inside z3.state; buffer = put_at (z3.state.place - 1) (listed r z3.state.station i t1 (get_or z3.state.after z3.state.depth 0)) z3.buffer }
      → start_of p exit t ≡ p → inside ≡ x.state.inside
      → laid x.state.station x.state.inside p exit t
      ≡ listed r x.state.station i t1 (start_of (suc p + size u) exit rest) ∷ (part_laid ++ rest_laid)
      → Done t x (lay_record places r (lay_records places (flat u ++ (close ∷ flat rest)) x)) p exit q
  unfolding z1 z3
  done_whole t r close inside i t1 c o s e l =
      rw (part_chain places u rest close x, c, o) (done_round t inside _ s e (buffer_z4 r i t1 ∙ rw l refl))

one_on : (a j : ℕ) → suc a + j ≡ a + suc j
one_on a j = omega arith

-- the OD of a loop finds its WHILE
loop_place : (places : List ℕ) (q p : ℕ) (a c : List ℕ) → Among places q (a ++ (p ∷ c)) → get_or places (q + length a) 0 ≡ p
loop_place places q p a c h =
    h (length a) (simp length-append (omega arith)) ∙ get_or-append_seam a p c 0

read_branch : (b : Bool) (r : Record) (u v rest : Statements) → r.kind ≡ IF → Reads b u → Reads b v → Reads b rest → Reads b (branch r u v rest)
unfolding lay_records flat y1 y2 y3 y4 y5
read_branch b r u v rest k hu hv hr places x p exit q h =
    rw (branch_chain places u v rest x, records.lay_fi, records.lay_else)
    (done_branch b r u v rest k hu hv hr places x p exit q h)

around_loop : (r : Record) (u rest : Statements) (places : List ℕ) (x : Laid) (p exit q : ℕ) → Before false (loop r u rest) places x p exit q
    → Around false u rest places x p exit q (suc (q + length (loops_of (suc p) u)))
unfolding size loops_of
around_loop r u rest places x p exit q h =
    let lu : List ℕ = loops_of (suc p) u in
    let lr : List ℕ = loops_of (suc p + size u) rest in
    let found = among_right places q lu (p ∷ lr) h.found in
    record {
      place = h.place ∙ omega arith;
      next = h.next;
      numbered = h.numbered;
      inside = h.inside;
      left = h.loops ∙ simp length-append (omega arith);
      found_rest = λ j l. rw (one_on (q + length lu) j) (found (suc j) (omega arith));
      found_part = among_left places q lu (p ∷ lr) h.found;
      deep = h.fits.0;
      fits_part = h.fits.1;
      fits_rest = h.fits.2;
      after_length = h.after_length;
      second_length = h.second_length;
      room = omega (arith, h.room);
    }

around_await : (r : Record) (u rest : Statements) (places : List ℕ) (x : Laid) (p exit q : ℕ) → Before false (await r u rest) places x p exit q
    → Around false u rest places x p exit q (q + length (loops_of (suc p) u))
unfolding size loops_of
around_await r u rest places x p exit q h =
    let lu : List ℕ = loops_of (suc p) u in
    let lr : List ℕ = loops_of (suc p + size u) rest in
    record {
      place = h.place ∙ omega arith;
      next = h.next;
      numbered = h.numbered;
      inside = h.inside;
      left = h.loops ∙ simp length-append (omega arith);
      found_rest = among_right places q lu lr h.found;
      found_part = among_left places q lu lr h.found;
      deep = h.fits.0;
      fits_part = h.fits.1;
      fits_rest = h.fits.2;
      after_length = h.after_length;
      second_length = h.second_length;
      room = omega (arith, h.room);
    }

same_push : (x : Laid) {a b i j l m : ℕ} → a ≡ b → i ≡ j → l ≡ m
    → ◌≡◌ {A = Laid} (record { state = pushed a i l x.state; buffer = x.buffer }) (record { state = pushed b j m x.state; buffer = x.buffer })
same_push x e f g = rw (e, f, g)

-- the OD of a loop opens its part, which leads back to the WHILE
module _ (r : Record) (u rest : Statements) (kind : r.kind ≡ WHILE) (hu : Reads false u) (hr : Reads false rest) (places : List ℕ) (x : Laid)
    (p exit q : ℕ) (h : Before false (loop r u rest) places x p exit q)
    (a : Around false u rest places x p exit q (suc (q + length (loops_of (suc p) u)))) where
  abbrev w1 : Laid
  w1 = z1 false false u rest hu hr places x p exit q (suc (q + length (loops_of (suc p) u))) p a

  abbrev w3 : Laid
  w3 = z3 false false u rest hu hr places x p exit q (suc (q + length (loops_of (suc p) u))) p a

  f1 : Done rest x w1 (suc p + size u) exit (suc (q + length (loops_of (suc p) u)))
  f1 = e1 false false u rest hu hr places x p exit q (suc (q + length (loops_of (suc p) u))) p a

  f3 : Done u (z2 false false u rest hu hr places x p exit q (suc (q + length (loops_of (suc p) u))) p a) w3 (suc p) p q
  f3 = e3 false false u rest hu hr places x p exit q (suc (q + length (loops_of (suc p) u))) p a

  back : get_or places (w1.state.loops - 1) 0 ≡ p
  unfolding loops_of
  back =
      let m : w1.state.loops - 1 ≡ q + length (loops_of (suc p) u) = omega (arith, f1.loops) in
      rw m (loop_place places q p (loops_of (suc p) u) (loops_of (suc p + size u) rest) h.found)

  closing : lay_record places (bare OD 0) w1 ≡ z2 false false u rest hu hr places x p exit q (suc (q + length (loops_of (suc p) u))) p a
  unfolding z2
  closing =
      let m : w1.state.loops - 1 ≡ q + length (loops_of (suc p) u) = omega (arith, f1.loops) in
      records.lay_od places w1 ∙ same_push w1 back (f1.inside ∙ h.inside) m

  inside_3w : w3.state.inside ≡ x.state.inside
  unfolding z2 pushed
  inside_3w = f3.inside ∙ sym h.inside

  done_loop : Done (loop r u rest) x (lay_record places r (lay_records places (flat u ++ (bare OD 0 ∷ flat rest)) x)) p exit q
  unfolding laid part_laid rest_laid
  done_loop =
      done_whole false false u rest hu hr places x p exit q (suc (q + length (loops_of (suc p) u))) p a (loop r u rest) r (bare OD 0)
      w3.state.inside w3.state.inside w3.state.next closing
      (records.lay_while places w3 (rw (station_z3 false false u rest hu hr places x p exit q (suc (q + length (loops_of (suc p) u))) p a) h.numbered) r kind)
      refl inside_3w (rw (inside_3w, f3.next, h.inside) refl)

-- the END of an AWAIT opens its body, whose last step leads out
module _ (r : Record) (u rest : Statements) (kind : r.kind ≡ AWAIT) (hu : Reads true u) (hr : Reads false rest) (places : List ℕ) (x : Laid)
    (p exit q : ℕ) (h : Before false (await r u rest) places x p exit q)
    (a : Around false u rest places x p exit q (q + length (loops_of (suc p) u))) where
  abbrev v1 : Laid
  v1 = z1 false true u rest hu hr places x p exit q (q + length (loops_of (suc p) u)) 0 a

  abbrev v3 : Laid
  v3 = z3 false true u rest hu hr places x p exit q (q + length (loops_of (suc p) u)) 0 a

  g1 : Done rest x v1 (suc p + size u) exit (q + length (loops_of (suc p) u))
  g1 = e1 false true u rest hu hr places x p exit q (q + length (loops_of (suc p) u)) 0 a

  g3 : Done u (z2 false true u rest hu hr places x p exit q (q + length (loops_of (suc p) u)) 0 a) v3 (suc p) 0 q
  g3 = e3 false true u rest hu hr places x p exit q (q + length (loops_of (suc p) u)) 0 a

  ending : lay_record places (bare END 0) v1 ≡ z2 false true u rest hu hr places x p exit q (q + length (loops_of (suc p) u)) 0 a
  unfolding z2
  ending = records.lay_end places v1 ∙ same_push v1 refl refl g1.loops

  done_await : Done (await r u rest) x (lay_record places r (lay_records places (flat u ++ (bare END 0 ∷ flat rest)) x)) p exit q
  unfolding laid part_laid rest_laid
  done_await =
      done_whole false true u rest hu hr places x p exit q (q + length (loops_of (suc p) u)) 0 a (await r u rest) r (bare END 0)
      0 0 v3.state.place ending
      (records.lay_await places v3 (rw (station_z3 false true u rest hu hr places x p exit q (q + length (loops_of (suc p) u)) 0 a) h.numbered) r kind)
      refl (sym h.inside) (rw (g3.place, h.inside) refl)

-- what holds before a SKIP or a SET with a rest is read holds before the rest is
module _ (b : Bool) (rest : Statements) (places : List ℕ) (x : Laid) (p exit q : ℕ) where
  before_step : (t : Statements) → size t ≡ suc (size rest) → loops_of p t ≡ loops_of (suc p) rest
      → (Fits x.state.depth t → Fits x.state.depth rest) → Before b t places x p exit q → Before b rest places x (suc p) exit q
  before_step t s l f h =
      record {
        place = h.place ∙ omega (arith, s);
        next = h.next;
        numbered = h.numbered;
        inside = h.inside;
        loops = rw l at h.loops;
        found = rw l at h.found;
        fits = f h.fits;
        after_length = h.after_length;
        second_length = h.second_length;
        room = omega (arith, s, h.room);
      }

  before_skip : Before b (skip rest) places x p exit q → Before b rest places x (suc p) exit q
  unfolding size loops_of
  before_skip = before_step (skip rest) refl refl (λ f. f)

  before_assign : (r : Record) → Before b (assign r rest) places x p exit q → Before b rest places x (suc p) exit q
  unfolding size loops_of
  before_assign r = before_step (assign r rest) refl refl (λ f. f)

-- statements of any kind
pub read_all : {b : Bool} {t : Statements} → Proper b t → Reads b t
unfolding lay_records flat
read_all {b} end places x p exit q h = done_nothing b places x p exit q h
read_all {b} (skips {rest = rest} c) places x p exit q h =
    let g = before_skip b rest places x p exit q h in
    done_skip places x (lay_records places (flat rest) x) p exit q rest g.room (read_all c places x (suc p) exit q g) h.numbered
read_all {b} (assigns {r = r} {rest = rest} k c) places x p exit q h =
    let g = before_assign b rest places x p exit q r h in
    done_assign places x (lay_records places (flat rest) x) p exit q rest g.room (read_all c places x (suc p) exit q g) h.numbered r k
read_all {b} (branches {r = r} {x = u} {y = v} {rest = rest} k s c t d e) places x p exit q h =
    read_branch b r u v rest k (read_all c) (read_all d) (read_all e) places x p exit q h
read_all (loops {r = r} {x = u} {rest = rest} k s c e) places x p exit q h =
    done_loop r u rest k (read_all c) (read_all e) places x p exit q h (around_loop r u rest places x p exit q h)
read_all (awaits {r = r} {x = u} {rest = rest} k s c e) places x p exit q h =
    done_await r u rest k (read_all c) (read_all e) places x p exit q h (around_await r u rest places x p exit q h)
