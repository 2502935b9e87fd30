-- What each kind of record does to the layout of a list. Assumes nothing.
use mathlib.Core.Path.{◌≡◌, refl}
use mathlib.Core.Bool.{true, false}
use mathlib.Core.List.{List}
use Prim.Native.Nat.{ℕ, ◌-◌}
use lib.Dec.{eqb}
use lib.ListN.{get_or}
use Rattle.rules.specs.Names.{STATION, SKIP, SET, IF, ELSE, FI, WHILE, OD, AWAIT, END, STOP, no_station}
use Rattle.rules.specs.Records.{Record}
use Rattle.rules.specs.Build.{bare, listed}
use Rattle.layout.specs.Layout.{stepped, pushed, switched, popped, turned, after_kind, lays, record_for}
use Rattle.laying.specs.Laid.{Laid, put_at, lay_record}

module _ (places : List ℕ) (x : Laid) where
  module _ (numbered : eqb x.state.station no_station ≡ false) where
    pub lay_skip : lay_record places (bare SKIP 0) x
        ≡ record { state = stepped x.state; buffer = put_at (x.state.place - 1) (listed (bare SKIP 0) x.state.station x.state.inside x.state.next 0) x.buffer }
    unfolding lay_record after_kind lays record_for
    lay_skip = rw numbered

    pub lay_set : (r : Record) → r.kind ≡ SET → lay_record places r x
        ≡ record { state = stepped x.state; buffer = put_at (x.state.place - 1) (listed r x.state.station x.state.inside x.state.next 0) x.buffer }
    unfolding lay_record after_kind lays record_for
    lay_set r e = rw (e, numbered)

    pub lay_if : (r : Record) → r.kind ≡ IF → lay_record places r x
        ≡ record { state = popped x.state.inside x.state; buffer = put_at (x.state.place - 1) (listed r x.state.station x.state.inside x.state.next (get_or x.state.second x.state.depth 0)) x.buffer }
    unfolding lay_record after_kind lays record_for
    lay_if r e = rw (e, numbered)

    pub lay_while : (r : Record) → r.kind ≡ WHILE → lay_record places r x
        ≡ record { state = popped x.state.inside x.state; buffer = put_at (x.state.place - 1) (listed r x.state.station x.state.inside x.state.next (get_or x.state.after x.state.depth 0)) x.buffer }
    unfolding lay_record after_kind lays record_for
    lay_while r e = rw (e, numbered)

    pub lay_await : (r : Record) → r.kind ≡ AWAIT → lay_record places r x
        ≡ record { state = popped 0 x.state; buffer = put_at (x.state.place - 1) (listed r x.state.station 0 x.state.place (get_or x.state.after x.state.depth 0)) x.buffer }
    unfolding lay_record after_kind lays record_for
    lay_await r e = rw (e, numbered)

  pub lay_fi : lay_record places (bare FI 0) x
      ≡ record { state = pushed x.state.next x.state.inside x.state.loops x.state; buffer = x.buffer }
  unfolding lay_record after_kind lays
  lay_fi = refl

  pub lay_else : lay_record places (bare ELSE 0) x ≡ record { state = switched x.state; buffer = x.buffer }
  unfolding lay_record after_kind lays
  lay_else = refl

  pub lay_od : lay_record places (bare OD 0) x
      ≡ record { state = pushed (get_or places (x.state.loops - 1) 0) x.state.inside (x.state.loops - 1) x.state; buffer = x.buffer }
  unfolding lay_record after_kind lays
  lay_od = refl

  pub lay_end : lay_record places (bare END 0) x ≡ record { state = pushed 0 1 x.state.loops x.state; buffer = x.buffer }
  unfolding lay_record after_kind lays
  lay_end = refl

  -- a STATION, or the end of the file, has the STOP of the station before laid for it
  pub lay_station : eqb x.state.station 0 ≡ false → lay_record places (bare STATION 0) x
      ≡ record { state = turned x.state; buffer = put_at (x.state.place - 1) (listed (bare STOP 0) (x.state.station - 1) 0 0 0) x.buffer }
  unfolding lay_record after_kind lays record_for
  lay_station e = rw e

  -- but the first has none
  pub lay_first : eqb x.state.station 0 ≡ true → lay_record places (bare STATION 0) x ≡ record { state = turned x.state; buffer = x.buffer }
  unfolding lay_record after_kind lays record_for
  lay_first e = rw e

  -- and before it stands the initial part
  pub lay_initial : (r : Record) → r.kind ≡ SET → eqb x.state.station no_station ≡ true → lay_record places r x
      ≡ record { state = stepped x.state; buffer = put_at (x.state.place - 1) (listed r no_station 0 0 0) x.buffer }
  unfolding lay_record after_kind lays record_for
  lay_initial r e f = rw (e, f)
