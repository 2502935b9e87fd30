-- The records of a whole file that SHAPE passes are those of its initial part and of its stations. Assumes nothing.
use mathlib.Core.Path.{◌≡◌, refl, sym, ap, subst, ◌∙◌}
use mathlib.Core.Bool.{true, false, false≢true}
use mathlib.Core.List.{List, [], ◌∷◌, ◌++◌, tail, append-nil}
use Prim.Native.Nat.{ℕ, ◌≤◌}
use native.Mathlib.Omega.{arith}
use lib.Dec.{eqb}
use lib.ListN.{length}
use borrow.Author.Tests.{eqb-true}
use Rattle.rules.specs.Names.{STATION, SET}
use Rattle.rules.specs.Records.{Record}
use Rattle.rules.specs.Shape.{opened, Stand, initial, within, wrong, stride, finished, walked}
use Rattle.rules.specs.Trees.{Statements, read_on, parts_of, leading_sets}
use Rattle.rules.specs.Build.{bare}
use Rattle.laws.proofs.Choice.{by_test}
use Rattle.reading.specs.Reading.{flat, flat_stations, flat_file, Stations, no_stations, a_station, Sets, no_sets, a_set}
use Rattle.reading.proofs.Walk.{kinds_of, All-bare, Read, read, not_wrong}

-- stations, from the first one's first statement on
read_stations : (x : Statements) (xs : List Statements) (rs : List Record) → Read xs (within (opened STATION false) []) x rs
    → Stations (x ∷ xs) × (flat x ++ flat_stations xs ≡ rs)
unfolding flat_stations
read_stations x [] rs h = (a_station (h.0.some refl) h.0.proper no_stations, append-nil (flat x) ∙ sym h.2)
read_stations x (y ∷ ys) rs h =
    let rest = read_stations y ys h.1 h.3 in (
      a_station (h.0.some refl) h.0.proper rest.0,
      ap (λ (l : List Record). flat x ++ (bare STATION 0 ∷ l)) rest.1 ∙ sym h.2,
    )

-- a SET before the first STATION changes nothing after it
pub tail_set : (r : Record) (all : List Statements) → r.kind ≡ SET → tail (read_on r all) ≡ tail all
tail_set r [] e = rw e
tail_set r (x ∷ xs) e = rw e

-- a whole file's records
pub record Whole (rs : List Record) : Type 0 where
  pub sets : Sets (leading_sets rs)
  pub stations : Stations (tail (parts_of rs))
  pub one_at_least : 1 ≤ length (tail (parts_of rs))
  pub same : flat_file (leading_sets rs) (tail (parts_of rs)) ≡ rs

pub whole : (rs : List Record) → All-bare rs → finished (walked initial (kinds_of rs)) ≡ true → Whole rs
unfolding walked stride leading_sets parts_of flat_stations
whole [] a e = absurd (false≢true e)
whole (r ∷ rs) a e = by_test (eqb r.kind SET) (set (whole rs a.1)) (λ f. by_test (eqb r.kind STATION) (station f) (fault f))
  where
    on : (s : Stand) → stride initial r.kind ≡ s → finished (walked s (kinds_of rs)) ≡ true
    on s t = subst (λ (s : Stand). finished (walked s (kinds_of rs)) ≡ true) t e

    set : (finished (walked initial (kinds_of rs)) ≡ true → Whole rs) → eqb r.kind SET ≡ true → Whole (r ∷ rs)
    set rest t =
        let w = rest (on initial (rw t)) in
        let k = eqb-true r.kind SET t in
        record {
          sets = rw t (a_set k w.sets);
          stations = rw (tail_set r (parts_of rs) k) w.stations;
          one_at_least = rw (tail_set r (parts_of rs) k) w.one_at_least;
          same = rw (tail_set r (parts_of rs) k, t) (ap (λ (l : List Record). r ∷ l) w.same);
        }

    station : eqb r.kind SET ≡ false → eqb r.kind STATION ≡ true → Whole (r ∷ rs)
    station f t =
        let k = eqb-true r.kind STATION t in
        let own : r ≡ bare STATION 0 = a.0 (rw k refl) ∙ ap (λ (k : ℕ). bare k 0) k in
        let g = read rs (within (opened STATION false) []) refl a.1 (on (within (opened STATION false) []) (rw (f, t))) in
        let h = read_stations g.part g.parts rs g.read in
        rw own (record {
          sets = no_sets;
          stations = rw g.these h.0;
          one_at_least = rw g.these (omega arith);
          same = rw g.these (ap (λ (l : List Record). bare STATION 0 ∷ l) h.1);
        })

    fault : eqb r.kind SET ≡ false → eqb r.kind STATION ≡ false → Whole (r ∷ rs)
    fault f g = absurd (not_wrong (parts_of rs) rs (read rs wrong tt a.1 (on wrong (rw (f, g)))))
