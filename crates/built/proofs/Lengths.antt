-- How many records a list has: two for each STATION, and one for each SKIP, SET, IF, WHILE and AWAIT. Assumes nothing.
use mathlib.Core.Path.{◌≡◌, refl, ap, ◌∙◌}
use mathlib.Core.Bool.{Bool}
use mathlib.Core.List.{List, [], ◌∷◌, ◌++◌}
use Prim.Native.Nat.{ℕ, suc, ◌+◌, ◌≤◌, zero-le}
use native.Mathlib.Omega.{arith}
use lib.ListN.{length, length-append, length-map}
use Rattle.rules.specs.Words.{tally, values}
use Rattle.rules.specs.Names.{ELSE, FI, OD, END}
use Rattle.rules.specs.Records.{Record}
use Rattle.rules.specs.Trees.{Statements, nothing, skip, assign, branch, loop, await, size}
use Rattle.rules.specs.Build.{bare, start_of, laid, inits, bodies, list_of}
use Rattle.laws.specs.Number.{number_of}
use Rattle.laws.proofs.Counts.{tally_values}
use Rattle.reading.specs.Reading.{flat, flat_stations, flat_file, Proper, end, skips, assigns, branches, loops, awaits, Stations, no_stations, a_station, Sets, no_sets, a_set}
use Rattle.reading.proofs.Flat.{flat_branch, flat_loop, flat_await}
pub use Rattle.built.specs.Built.{is_step, steps_in}

-- statements have as many list records as their size says
pub length_laid : (station inside p after : ℕ) (t : Statements) → length (laid station inside p after t) ≡ size t
unfolding laid size
length_laid station inside p after nothing = refl
length_laid station inside p after (skip rest) = ap suc (length_laid station inside (suc p) after rest)
length_laid station inside p after (assign r rest) = ap suc (length_laid station inside (suc p) after rest)
length_laid station inside p after (branch r x y rest) =
    let next = start_of (suc p + size x + size y) after rest in
    let h = length_laid station inside (suc p) next x in
    let k = length_laid station inside (suc p + size x) next y in
    let l = length_laid station inside (suc p + size x + size y) after rest in
    simp (length-append, h, k, l) (omega arith)
length_laid station inside p after (loop r x rest) =
    let h = length_laid station inside (suc p) p x in
    let l = length_laid station inside (suc p + size x) after rest in
    simp (length-append, h, l) (omega arith)
length_laid station inside p after (await r x rest) =
    let h = length_laid station 1 (suc p) 0 x in
    let l = length_laid station inside (suc p + size x) after rest in
    simp (length-append, h, l) (omega arith)

-- the list records of stations: their steps, and a STOP each
unfoldable pub extent : List Statements → ℕ
extent [] = 0
extent (x ∷ stations) = suc (size x) + extent stations

pub length_bodies : (j p : ℕ) (stations : List Statements) → length (bodies j p stations) ≡ extent stations
unfolding bodies extent
length_bodies j p [] = refl
length_bodies j p (x ∷ stations) =
    let l = length_laid j 0 p (p + size x) x in
    let k = length_bodies (suc j) (suc (p + size x)) stations in
    simp length-append (omega arith)

pub tally_steps : (f : ℕ → Record) (n : ℕ) → tally (λ i. is_step (f i).kind) n ≡ steps_in (values f n)
tally_steps = tally_values (λ (r : Record). is_step r.kind)

steps_flat : {b : Bool} {t : Statements} → Proper b t → (rs : List Record) → steps_in (flat t ++ rs) ≡ size t + steps_in rs
unfolding number_of flat size
steps_flat end rs = omega arith
steps_flat (skips c) rs = let h = steps_flat c rs in omega arith
steps_flat (assigns k c) rs = let h = steps_flat c rs in rw k (omega arith)
steps_flat (branches {r = r} {x = x} {y = y} {rest = rest} k s c t e f) rs =
    let h = steps_flat f rs in
    let i = steps_flat e (bare FI 0 ∷ (flat rest ++ rs)) in
    let j = steps_flat c (bare ELSE 0 ∷ (flat y ++ (bare FI 0 ∷ (flat rest ++ rs)))) in
    ap steps_in (flat_branch r x rest rs y) ∙ rw k (omega arith)
steps_flat (loops {r = r} {x = x} {rest = rest} k s c f) rs =
    let h = steps_flat f rs in
    let j = steps_flat c (bare OD 0 ∷ (flat rest ++ rs)) in
    ap steps_in (flat_loop r x rest rs) ∙ rw k (omega arith)
steps_flat (awaits {r = r} {x = x} {rest = rest} k s c f) rs =
    let h = steps_flat f rs in
    let j = steps_flat c (bare END 0 ∷ (flat rest ++ rs)) in
    ap steps_in (flat_await r x rest rs) ∙ rw k (omega arith)

pub steps_stations : {stations : List Statements} → Stations stations → length stations + steps_in (flat_stations stations) ≡ extent stations
unfolding flat_stations extent number_of
steps_stations no_stations = refl
steps_stations (a_station {x = x} {stations = stations} s p c) =
    let h = steps_stations c in
    let i = steps_flat p (flat_stations stations) in
    omega arith

pub steps_file : {initial : List Record} {stations : List Statements} → Sets initial → Stations stations
    → length stations + steps_in (flat_file initial stations) ≡ length initial + extent stations
unfolding number_of
steps_file no_sets c = let h = steps_stations c in omega arith
steps_file (a_set k s) c = let h = steps_file s c in rw k (omega arith)

pub length_inits : (j p : ℕ) (stations : List Statements) → length (inits j p stations) ≡ length stations
unfolding inits
length_inits j p [] = refl
length_inits j p (x ∷ stations) = ap suc (length_inits (suc j) (suc (p + size x)) stations)

pub length_list : (initial : List Record) (stations : List Statements) → length (list_of initial stations) ≡ length stations + length initial + extent stations
unfolding list_of
length_list initial stations =
    let p : ℕ = length stations + length initial in
    let h = length_inits 0 p stations in
    let k = length_bodies 0 p stations in
    simp (length-append, length-map) (omega arith)

-- but for its INIT records, a list has no more records than the file
size_within : (t : Statements) → size t ≤ length (flat t)
unfolding size flat
size_within nothing = zero-le
size_within (skip rest) = let h = size_within rest in omega arith
size_within (assign r rest) = let h = size_within rest in omega arith
size_within (branch r x y rest) =
    let h = size_within x in
    let i = size_within y in
    let j = size_within rest in
    simp length-append (omega arith)
size_within (loop r x rest) =
    let h = size_within x in
    let j = size_within rest in
    simp length-append (omega arith)
size_within (await r x rest) =
    let h = size_within x in
    let j = size_within rest in
    simp length-append (omega arith)

pub extent_within : (stations : List Statements) → extent stations ≤ length (flat_stations stations)
unfolding extent flat_stations
extent_within [] = zero-le
extent_within (x ∷ stations) =
    let h = size_within x in
    let i = extent_within stations in
    simp length-append (omega arith)
