-- The stations of a file, the initial part and the INIT records, laid out one after the other from the last. Assumes nothing.
use mathlib.Core.Path.{◌≡◌, refl, sym, ap, ◌∙◌}
use mathlib.Core.Bool.{true, false}
use mathlib.Core.List.{List, [], ◌∷◌, ◌++◌, append_assoc, map}
use Prim.Native.Nat.{ℕ, zero, suc, ◌+◌, ◌*◌, ◌-◌, ◌≤◌, ◌<◌}
use native.Mathlib.Nat.{add-zero, zero-add, not-suc-le-zero}
use native.Mathlib.Omega.{arith}
use lib.Dec.{eqb}
use lib.ListN.{length, get_or, set, length-set, length-append, length-map}
use lib.Seq.{get_or-set_same, get_or-set_other}
use borrow.Author.Tests.{eq-eqb, ne_eqb}
use Rattle.rules.specs.Words.{written, values}
use Rattle.rules.specs.Names.{STATION, STOP, INIT, no_station}
use Rattle.rules.specs.Records.{Record, ListRecord}
use Rattle.rules.specs.Trees.{Statements, size}
use Rattle.rules.specs.Build.{bare, listed, laid, inits, bodies, initial_record, list_of, bytes_of}
use Rattle.laws.proofs.Places.{values_suc}
use Rattle.reading.specs.Reading.{flat, flat_stations, flat_file, Proper, Stations, a_station, Sets, a_set}
use Rattle.built.proofs.Bytes.{length_bytes_of}
use Rattle.built.proofs.Lengths.{length_laid, extent, length_bodies}
use Rattle.layout.specs.Layout.{before_last, stepped, turned}
use Rattle.laying.specs.Laid.{Laid, put_at, lay_record, lay_records, lay_inits}
use Rattle.laws.proofs.Written.{written_none, length_written}
use Rattle.build.proofs.Written.{records_before, record_before}
use Rattle.build.proofs.Parts.{Fits, loops_of, Among, among_left, among_right}
use Rattle.build.proofs.Records as records
use Rattle.build.proofs.Backward.{over_append, Done, read_all}

-- where each of them starts, the first at p
unfoldable pub starts_of : ℕ → List Statements → List ℕ
starts_of p [] = []
starts_of p (x ∷ stations) = p ∷ starts_of (suc (p + size x)) stations

-- their loops
unfoldable pub station_loops : ℕ → List Statements → List ℕ
station_loops p [] = []
station_loops p (x ∷ stations) = loops_of p x ++ station_loops (suc (p + size x)) stations

abbrev pub Shallow : List Statements → Type 0
Shallow [] = Unit {0}
Shallow (x ∷ stations) = (Fits 0 x) × (Shallow stations)

-- the stations' statements, each after the STATION, or the end of the file, that follows it
turns : List ℕ → List Statements → Laid → Laid
turns places [] y = y
turns places (x ∷ stations) y = lay_records places (flat x) (lay_record places (bare STATION 0) (turns places stations y))

stations_chain : (places : List ℕ) (stations : List Statements) (y : Laid)
    → lay_records places (flat_stations stations) (lay_record places (bare STATION 0) y) ≡ lay_record places (bare STATION 0) (turns places stations y)
unfolding lay_records flat_stations turns
stations_chain places [] y = refl
stations_chain places (x ∷ stations) y =
    ap (lay_record places (bare STATION 0))
    (over_append places (flat x) (flat_stations stations) (lay_record places (bare STATION 0) y)
    ∙ ap (lay_records places (flat x)) (stations_chain places stations y))

-- the stations from number j on are laid out from the place p on, into what was in the buffer
record Standing (stations : List Statements) (before : List ℕ) (y : Laid) (j p q : ℕ) : Type 0 where
  place : y.state.place ≡ p
  station : y.state.station ≡ j
  inside : y.state.inside ≡ 0
  loops : y.state.loops ≡ q
  depth : y.state.depth ≡ 0
  after_length : length y.state.after ≡ 17
  second_length : length y.state.second ≡ 17
  starts_length : length y.state.starts ≡ 8
  -- but for the first of them, whose STATION is still to be read
  starts : (k : ℕ) → suc k < length stations → get_or y.state.starts (j + suc k) 0 ≡ get_or (starts_of p stations) (suc k) 0
  buffer : y.buffer ≡ written before (16 * p) (bytes_of (bodies j p stations))

starts_head : (p : ℕ) (stations : List Statements) → 0 < length stations → get_or (starts_of p stations) 0 0 ≡ p
unfolding starts_of
starts_head p [] h = absurd (not-suc-le-zero h)
starts_head p (x ∷ stations) h = refl

-- one station more: its STOP, and its statements
module _ (places : List ℕ) (x : Statements) (stations : List Statements) (before : List ℕ) (y : Laid) (j p q q1 : ℕ)
    (s : Standing stations before y (suc j) (suc (p + size x)) q1) (proper : Proper false x) (fits : Fits 0 x) (few : suc j + length stations ≤ 8)
    (left : q1 ≡ q + length (loops_of p x)) (found : Among places q (loops_of p x))
    (room : 16 * (suc (p + size x) + extent stations) ≤ length before) where
  stop : ListRecord
  stop = listed (bare STOP 0) j 0 0 0

  turned_to : Laid
  turned_to = lay_record places (bare STATION 0) y

  other : eqb y.state.station 0 ≡ false
  other = ne_eqb y.state.station 0 (omega (arith, s.station))

  turned_is : turned_to ≡ record { state = turned y.state; buffer = put_at (y.state.place - 1) (listed (bare STOP 0) (y.state.station - 1) 0 0 0) y.buffer }
  unfolding turned_to
  turned_is = records.lay_station places y other

  abbrev t : Laid
  t = record { state = turned y.state; buffer = put_at (y.state.place - 1) (listed (bare STOP 0) (y.state.station - 1) 0 0 0) y.buffer }

  t_place : t.state.place ≡ p + size x
  unfolding turned
  t_place = rw other (omega (arith, s.place))

  t_next : t.state.next ≡ p + size x
  unfolding turned
  t_next = rw other (omega (arith, s.place))

  t_station : t.state.station ≡ j
  unfolding turned
  t_station = rw other (omega (arith, s.station))

  t_buffer : t.buffer ≡ written before (16 * (p + size x)) (bytes_of (stop ∷ bodies (suc j) (suc (p + size x)) stations))
  unfolding stop
  t_buffer =
      let a : y.state.place - 1 ≡ p + size x = omega (arith, s.place) in
      let b : y.state.station - 1 ≡ j = omega (arith, s.station) in
      let l = length_bodies (suc j) (suc (p + size x)) stations in
      rw (a, b, s.buffer) (record_before before (p + size x) stop (bodies (suc j) (suc (p + size x)) stations) (omega arith))

  t_room : length t.buffer ≡ length before
  t_room =
      let es = stop ∷ bodies (suc j) (suc (p + size x)) stations in
      let l = length_bodies (suc j) (suc (p + size x)) stations in
      let k = length_bytes_of es in
      ap length t_buffer ∙ length_written before (16 * (p + size x)) (bytes_of es) (omega arith)

  read : Laid
  read = lay_records places (flat x) t

  done : Done x t read p (p + size x) q
  unfolding turned read
  done =
      read_all proper places t p (p + size x) q
      (record {
        place = t_place;
        next = t_next;
        numbered = ne_eqb t.state.station no_station (omega (arith, t_station));
        inside = s.inside;
        loops = s.loops ∙ left;
        found = found;
        fits = rw s.depth fits;
        after_length = s.after_length;
        second_length = s.second_length;
        room = omega (arith, t_room);
      })

  t_starts : (k : ℕ) → suc k < suc (length stations) → get_or t.state.starts (j + suc k) 0 ≡ get_or (starts_of p (x ∷ stations)) (suc k) 0
  unfolding turned starts_of
  t_starts zero h =
      let e : j + 1 ≡ y.state.station = omega (arith, s.station) in
      rw e (get_or-set_same y.state.starts y.state.station y.state.place 0 (omega (arith, s.station, s.starts_length)))
      ∙ s.place
      ∙ sym (starts_head (suc (p + size x)) stations (omega arith))
  t_starts (suc k) h =
      let e : j + suc (suc k) ≡ suc j + suc k = omega arith in
      rw e
      (get_or-set_other y.state.starts y.state.station (suc j + suc k) y.state.place 0 (omega (arith, s.station))
      ∙ s.starts k (omega arith))

  standing_more : Standing (x ∷ stations) before (lay_records places (flat x) turned_to) j p q
  unfolding turned bodies stop read
  standing_more =
      let l = length_laid j 0 p (p + size x) x in
      let k = length_bodies (suc j) (suc (p + size x)) stations in
      let i : t.state.inside ≡ 0 = s.inside in
      rw turned_is
      (record {
        place = done.place;
        station = done.station ∙ t_station;
        inside = done.inside ∙ i;
        loops = done.loops;
        depth = done.depth ∙ s.depth;
        after_length = done.after_length;
        second_length = done.second_length;
        starts_length = ap length done.starts ∙ length-set y.state.starts y.state.station y.state.place ∙ s.starts_length;
        starts = λ k h. ap (λ (l : List ℕ). get_or l (j + suc k) 0) done.starts ∙ t_starts k h;
        buffer =
            done.buffer
            ∙ rw (t_station, i, t_buffer)
            (records_before before p (p + size x) (laid j 0 p (p + size x) x) (stop ∷ bodies (suc j) (suc (p + size x)) stations) (omega arith) (omega arith));
      })

stand_all : (places : List ℕ) (stations : List Statements) (before : List ℕ) (begin : Laid) (j p q : ℕ) → Stations stations → Shallow stations
    → j + length stations ≤ 8 → Among places q (station_loops p stations) → 16 * (p + extent stations) ≤ length before
    → Standing [] before begin (j + length stations) (p + extent stations) (q + length (station_loops p stations))
    → Standing stations before (turns places stations begin) j p q
unfolding turns extent station_loops turned_to
stand_all places [] before begin j p q c f few found room s = rw (add-zero j, add-zero p, add-zero q) at s
stand_all places (x ∷ stations) before begin j p q (a_station some proper c) f few found room s =
    let l : List ℕ = loops_of p x in
    let k : List ℕ = station_loops (suc (p + size x)) stations in
    let a : j + suc (length stations) ≡ suc j + length stations = omega arith in
    let b : p + (suc (size x) + extent stations) ≡ suc (p + size x) + extent stations = omega arith in
    let d : q + length (l ++ k) ≡ q + length l + length k = simp length-append (omega arith) in
    standing_more places x stations before (turns places stations begin) j p q (q + length l)
    (stand_all places stations before begin (suc j) (suc (p + size x)) (q + length l) c f.1 (omega arith) (among_right places q l k found) (omega arith) (rw (a, b, d) at s))
    proper f.0 (omega arith) refl (among_left places q l k found) (omega arith)

-- the initial part, laid before the records es
record Started (before : List ℕ) (starts : List ℕ) (y : Laid) (p : ℕ) (es : List ListRecord) : Type 0 where
  pub place : y.state.place ≡ p
  pub station : y.state.station ≡ no_station
  pub starts_are : y.state.starts ≡ starts
  pub buffer : y.buffer ≡ written before (16 * p) (bytes_of es)

initial_one : (before starts : List ℕ) (z : Laid) (p : ℕ) (d : ListRecord) (es : List ListRecord) → 16 * (suc p + length es) ≤ length before
    → Started before starts z (suc p) es
    → Started before starts (record { state = stepped z.state; buffer = put_at (z.state.place - 1) d z.buffer }) p (d ∷ es)
unfolding stepped
initial_one before starts z p d es room g =
    let n : z.state.place - 1 ≡ p = omega (arith, g.place) in
    record {
      place = n;
      station = g.station;
      starts_are = g.starts_are;
      buffer = rw (n, g.buffer) (record_before before p d es room);
    }

initial_all : (places : List ℕ) (initial : List Record) (before starts : List ℕ) (y : Laid) (p : ℕ) (es : List ListRecord) → Sets initial
    → 16 * (p + length initial + length es) ≤ length before → Started before starts y (p + length initial) es
    → Started before starts (lay_records places initial y) p (map initial_record initial ++ es)
unfolding lay_records
initial_all places [] before starts y p es c room s =
    record {
      place = s.place ∙ add-zero p;
      station = s.station;
      starts_are = s.starts_are;
      buffer = rw (add-zero p) at s.buffer;
    }
initial_all places (r ∷ initial) before starts y p es (a_set k c) room s =
    let e : p + suc (length initial) ≡ suc p + length initial = omega arith in
    let z : Laid = lay_records places initial y in
    let g : Started before starts z (suc p) (map initial_record initial ++ es) = initial_all places initial before starts y (suc p) es c (omega arith) (rw e at s) in
    let l : length (map initial_record initial ++ es) ≡ length initial + length es = simp (length-append, length-map) in
    rw (records.lay_initial places z r k (eq-eqb z.state.station no_station g.station))
    (initial_one before starts z p (initial_record r) (map initial_record initial ++ es) (omega arith) g)

-- the INIT records of the stations 0 to j-1, laid before the records es
abbrev lay_init : (starts : List ℕ) → ℕ → ListRecord
lay_init starts k = listed (bare INIT k) k 0 (get_or starts k 0) 0

inits_all : (starts before : List ℕ) (j : ℕ) (es : List ListRecord) → 16 * (j + length es) ≤ length before
    → lay_inits j starts j (written before (16 * j) (bytes_of es)) ≡ written before 0 (bytes_of (values (lay_init starts) j ++ es))
unfolding lay_inits values
inits_all starts before zero es room = refl
inits_all starts before (suc j) es room =
    let e : suc j - 1 ≡ j = omega arith in
    let l : (values (lay_init starts) (suc j)) ++ es ≡ values (lay_init starts) j ++ (lay_init starts j ∷ es) =
    ap (λ (xs : List ListRecord). xs ++ es) (values_suc (lay_init starts) j) ∙ append_assoc (values (lay_init starts) j) (lay_init starts j ∷ []) es in
    rw (e, record_before before j (lay_init starts j) es (omega arith), inits_all starts before j (lay_init starts j ∷ es) (omega arith)) (ap (λ (xs : List ListRecord). written before 0 (bytes_of xs)) (sym l))

-- where the stations start is where the array says, so these are the rules' INIT records
inits_are : (f : ℕ → ListRecord) (j p : ℕ) (stations : List Statements)
    → ((k : ℕ) → k < length stations → f k ≡ listed (bare INIT (j + k)) (j + k) 0 (get_or (starts_of p stations) k 0) 0)
    → values f (length stations) ≡ inits j p stations
unfolding values inits starts_of
inits_are f j p [] h = refl
inits_are f j p (x ∷ stations) h =
    let e : f 0 ≡ listed (bare INIT j) j 0 p 0 = rw (add-zero j) at (h 0 (omega arith)) in
    rw (
      e,
      inits_are (λ k. f (suc k)) (suc j) (suc (p + size x)) stations
          (λ k l. let a : j + suc k ≡ suc j + k = omega arith in rw a at (h (suc k) (omega arith))),
    )

-- the whole layout, where the loops were found: the buffer then holds the rules' list
module _ (places : List ℕ) (initial : List Record) (stations : List Statements) (before : List ℕ) (sets : Sets initial)
    (proper : Stations stations) (shallow : Shallow stations) (one : 1 ≤ length stations) (eight : length stations ≤ 8)
    (found : Among places 0 (station_loops (length stations + length initial) stations))
    (room : 16 * (length stations + length initial + extent stations) ≤ length before) where
  abbrev n : ℕ
  n = length stations

  abbrev p : ℕ
  p = length stations + length initial

  unfoldable pub begin : Laid
  begin = record { state = before_last (p + extent stations) n (length (station_loops p stations)); buffer = before }

  at_the_end : Standing [] before begin (0 + n) (p + extent stations) (0 + length (station_loops p stations))
  unfolding begin bodies bytes_of
  at_the_end =
      record {
        place = refl;
        station = omega arith;
        inside = refl;
        loops = omega arith;
        depth = refl;
        after_length = refl;
        second_length = refl;
        starts_length = refl;
        starts = λ k h. absurd (not-suc-le-zero h);
        buffer = sym (written_none before (16 * (p + extent stations)));
      }

  stood : Laid
  stood = turns places stations begin

  standing : Standing stations before stood 0 p 0
  unfolding stood
  standing = stand_all places stations before begin 0 p 0 proper shallow (omega arith) found room at_the_end

  starts : List ℕ
  starts = set stood.state.starts stood.state.station stood.state.place

  begun_at : Started before starts (lay_record places (bare STATION 0) stood) p (bodies 0 p stations)
  unfolding turned starts
  begun_at =
      let e : eqb stood.state.station 0 ≡ true = eq-eqb stood.state.station 0 standing.station in
      rw (records.lay_first places stood e)
      (record { place = rw e standing.place; station = rw e refl; starts_are = refl; buffer = standing.buffer })

  unfoldable pub whole : Laid
  whole = lay_records places (flat_file initial stations) (lay_record places (bare STATION 0) begin)

  whole_is : whole ≡ lay_records places initial (lay_record places (bare STATION 0) stood)
  unfolding whole stood
  whole_is = over_append places initial (flat_stations stations) (lay_record places (bare STATION 0) begin) ∙ ap (lay_records places initial) (stations_chain places stations begin)

  all_started : Started before starts whole n (map initial_record initial ++ bodies 0 p stations)
  all_started =
      let l = length_bodies 0 p stations in
      rw whole_is (initial_all places initial before starts (lay_record places (bare STATION 0) stood) n (bodies 0 p stations) sets (omega arith) begun_at)

  starts_at : (k : ℕ) → k < n → get_or starts k 0 ≡ get_or (starts_of p stations) k 0
  unfolding starts
  starts_at zero h =
      rw standing.station (get_or-set_same stood.state.starts 0 stood.state.place 0 (omega (arith, standing.starts_length)))
      ∙ standing.place
      ∙ sym (starts_head p stations h)
  starts_at (suc k) h =
      get_or-set_other stood.state.starts stood.state.station (suc k) stood.state.place 0 (omega (arith, standing.station))
      ∙ rw (zero-add (suc k)) at (standing.starts k h)

  pub laid_all : lay_inits n whole.state.starts whole.state.place whole.buffer ≡ written before 0 (bytes_of (list_of initial stations))
  unfolding list_of
  laid_all =
      let es : List ListRecord = map initial_record initial ++ bodies 0 p stations in
      let l = length_bodies 0 p stations in
      let k : length es ≡ length initial + extent stations = simp (length-append, length-map) (omega arith) in
      rw (all_started.starts_are, all_started.place, all_started.buffer, inits_all starts before n es (omega arith))
      (ap (λ (xs : List ListRecord). written before 0 (bytes_of (xs ++ es)))
      (inits_are (lay_init starts) 0 p stations (λ k h. rw (zero-add k, starts_at k h))))
