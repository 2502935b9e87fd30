-- Where no record is the seventeenth open, the stations of a reading go no deeper than sixteen parts. Assumes nothing.
use mathlib.Core.Path.{◌≡◌, refl, subst}
use mathlib.Core.Bool.{Bool, true, false, ◌&&◌}
use mathlib.Core.List.{List, [], ◌∷◌, ◌++◌, map}
use Prim.Native.Nat.{ℕ, suc, ◌-◌, ◌≤◌, ◌<◌, zero-le}
use native.Mathlib.Omega.{arith}
use lib.Dec.{leb}
use lib.ListN.{length}
use borrow.Author.Tests.{leb-false}
use Rattle.rules.specs.Names.{STATION, SKIP, IF, ELSE, FI, WHILE, OD, AWAIT, END, max_depth}
use Rattle.rules.specs.Records.{Record}
use Rattle.rules.specs.Trees.{Statements}
use Rattle.rules.specs.Build.{bare}
use Rattle.rules.specs.Shape.{opens, depth_after, too_deep_at}
use Rattle.laws.proofs.Choice.{by_test}
use Rattle.reading.specs.Reading.{flat, flat_stations, flat_file, Proper, end, skips, assigns, branches, loops, awaits, Stations, no_stations, a_station, Sets, no_sets, a_set}
use Rattle.reading.proofs.Flat.{flat_branch, flat_loop, flat_await}
use Rattle.build.proofs.Parts.{Fits}
use Rattle.build.proofs.Stations.{Shallow}

-- the place is at most the number of records
pub too_deep_within : (d : ℕ) (ks : List ℕ) → too_deep_at d ks ≤ length ks
unfolding too_deep_at
too_deep_within d [] = zero-le
too_deep_within d (k ∷ ks) =
    let h = too_deep_within (depth_after d k) ks in
    by_test (opens k && leb max_depth d) (λ e. rw e zero-le) (λ e. rw e (omega arith))

-- none of the records is the seventeenth open, with d open before them
abbrev Never : ℕ → List Record → Type 0
Never d rs = too_deep_at d (map (λ (r : Record). r.kind) rs) ≡ length rs

module _ (d : ℕ) (r : Record) (rs : List Record) (h : Never d (r ∷ rs)) where
  not_here : (opens r.kind && leb max_depth d) ≡ false
  unfolding too_deep_at
  not_here = by_test (opens r.kind && leb max_depth d) (λ e. absurd (let z = rw e at h in omega arith)) (λ e. e)

  not_after : Never (depth_after d r.kind) rs
  unfolding too_deep_at
  not_after = let z = rw not_here at h in omega arith

-- a record that opens a part is not the seventeenth, and one more is open after it
opening : (d k : ℕ) (r : Record) (rs : List Record) → r.kind ≡ k → opens k ≡ true → Never d (r ∷ rs) → (d < 16) × (Never (suc d) rs)
opening d k r rs e o h =
    let a : leb 16 d ≡ false = rw (e, o) at (not_here d r rs h) in
    let b : Never (suc d) rs = rw (e, o) at (not_after d r rs h) in
    (leb-false 16 d a, b)

-- a record that closes one
closing : (d : ℕ) (r : Record) (rs : List Record) → depth_after (suc d) r.kind ≡ suc d - 1 → Never (suc d) (r ∷ rs) → Never d rs
closing d r rs e h =
    let a : suc d - 1 ≡ d = omega arith in
    rw (e, a) at (not_after (suc d) r rs h)

-- what statements leave open, and how deep they go
Deep : Statements → Type 0
Deep t = (d : ℕ) (rs : List Record) → Never d (flat t ++ rs) → (Fits d t) × (Never d rs)

deep : {b : Bool} {t : Statements} → Proper b t → Deep t
unfolding Deep flat
deep end d rs h = (tt, h)
deep (skips {rest = rest} c) d rs h = deep c d rs (not_after d (bare SKIP 0) (flat rest ++ rs) h)
deep (assigns {r = r} {rest = rest} k c) d rs h = deep c d rs (rw k at (not_after d r (flat rest ++ rs) h))
deep (branches {r = r} {x = x} {y = y} {rest = rest} k s c t e f) d rs h =
    let a = opening d IF r (flat x ++ (bare ELSE 0 ∷ (flat y ++ (bare FI 0 ∷ (flat rest ++ rs))))) k refl (subst (Never d) (flat_branch r x rest rs y) h) in
    let b = deep c (suc d) (bare ELSE 0 ∷ (flat y ++ (bare FI 0 ∷ (flat rest ++ rs)))) a.1 in
    let g = deep e (suc d) (bare FI 0 ∷ (flat rest ++ rs)) (not_after (suc d) (bare ELSE 0) (flat y ++ (bare FI 0 ∷ (flat rest ++ rs))) b.1) in
    let i = deep f d rs (closing d (bare FI 0) (flat rest ++ rs) refl g.1) in
    ((a.0, b.0, g.0, i.0), i.1)
deep (loops {r = r} {x = x} {rest = rest} k s c f) d rs h =
    let a = opening d WHILE r (flat x ++ (bare OD 0 ∷ (flat rest ++ rs))) k refl (subst (Never d) (flat_loop r x rest rs) h) in
    let b = deep c (suc d) (bare OD 0 ∷ (flat rest ++ rs)) a.1 in
    let i = deep f d rs (closing d (bare OD 0) (flat rest ++ rs) refl b.1) in
    ((a.0, b.0, i.0), i.1)
deep (awaits {r = r} {x = x} {rest = rest} k s c f) d rs h =
    let a = opening d AWAIT r (flat x ++ (bare END 0 ∷ (flat rest ++ rs))) k refl (subst (Never d) (flat_await r x rest rs) h) in
    let b = deep c (suc d) (bare END 0 ∷ (flat rest ++ rs)) a.1 in
    let i = deep f d rs (closing d (bare END 0) (flat rest ++ rs) refl b.1) in
    ((a.0, b.0, i.0), i.1)

deep_stations : {stations : List Statements} → Stations stations → Never 0 (flat_stations stations) → Shallow stations
unfolding flat_stations Deep
deep_stations no_stations h = tt
deep_stations (a_station {x = x} {stations = stations} s p c) h =
    let a = deep p 0 (flat_stations stations) (not_after 0 (bare STATION 0) (flat x ++ flat_stations stations) h) in
    (a.0, deep_stations c a.1)

pub deep_file : {initial : List Record} {stations : List Statements} → Sets initial → Stations stations → Never 0 (flat_file initial stations) → Shallow stations
deep_file no_sets c h = deep_stations c h
deep_file {stations = stations} (a_set {r = r} {rs = rs} k s) c h = deep_file s c (rw k at (not_after 0 r (flat_file rs stations) h))
