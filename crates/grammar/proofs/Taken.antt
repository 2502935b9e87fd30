-- What SHAPE's walk takes, the grammar makes: such kinds have a reading, and the kinds of a reading are well shaped. Assumes nothing.
use mathlib.Core.Path.{◌≡◌, refl, ap, subst, ◌∙◌}
use mathlib.Core.Bool.{Bool, true, false}
use mathlib.Core.List.{List, [], ◌∷◌, ◌++◌, map, append_assoc, append-nil, map-append}
use Prim.Native.Nat.{ℕ, ◌≤◌}
use native.Mathlib.Nat.{not-suc-le-zero}
use lib.ListN.{length}
use Rattle.rules.specs.Names.{STATION}
use Rattle.rules.specs.Records.{Record}
use Rattle.rules.specs.Shape.{well_shaped}
use Rattle.rules.specs.Trees.{Statements, nothing, skip, assign, branch, loop, await}
use Rattle.rules.specs.Build.{bare}
use Rattle.reading.specs.Reading.{flat, flat_stations, flat_file, Stations, no_stations, a_station, Sets, no_sets, a_set}
use Rattle.reading.specs.Reading.{Some, Proper, end, skips, assigns, branches, loops, awaits}
use Rattle.reading.proofs.Walk.{kinds_of, All-bare}
use Rattle.reading.proofs.Whole.{whole}
use Rattle.grammar.specs.Grammar as G
use Rattle.grammar.specs.Grammar.{statement, statements, stations, Shaped, Sequence}

kinds_append : (x y : List Record) → kinds_of (x ++ y) ≡ kinds_of x ++ kinds_of y
kinds_append = map-append (λ (r : Record). r.kind)

-- a statement and then the rest, which may be nothing
goes_on : {b : Bool} {x : List ℕ} (rest : Statements) → Shaped (statement b) x → (Some rest → Shaped (statements b) (kinds_of (flat rest)))
    → Shaped (statements b) (x ++ kinds_of (flat rest))
unfolding flat
goes_on nothing f g = rw append-nil (G.one f)
goes_on (skip rest) f g = G.more f (g tt)
goes_on (assign r rest) f g = G.more f (g tt)
goes_on (branch r x y rest) f g = G.more f (g tt)
goes_on (loop r x rest) f g = G.more f (g tt)
goes_on (await r x rest) f g = G.more f (g tt)

kinds_statements : {b : Bool} {x : Statements} → Proper b x → Some x → Shaped (statements b) (kinds_of (flat x))
unfolding flat
kinds_statements end s = absurd s
kinds_statements (skips {rest = rest} p) s = goes_on rest G.skip (kinds_statements p)
kinds_statements (assigns {r = r} {rest = rest} e p) s = rw e (goes_on rest G.set (kinds_statements p))
kinds_statements (branches {r = r} {x = x} {y = y} {rest = rest} e s p t q u) i =
    rw (e, kinds_append, kinds_append)
    (rw (append_assoc, append_assoc) at
    (goes_on rest (G.branch (kinds_statements p s) (kinds_statements q t)) (kinds_statements u)))
kinds_statements (loops {r = r} {x = x} {rest = rest} e s p q) t =
    rw (e, kinds_append) (rw append_assoc at (goes_on rest (G.loop (kinds_statements p s)) (kinds_statements q)))
kinds_statements (awaits {r = r} {x = x} {rest = rest} e s p q) t =
    rw (e, kinds_append) (rw append_assoc at (goes_on rest (G.await (kinds_statements p s)) (kinds_statements q)))

kinds_stations : (x : Statements) {xs : List Statements} → Some x → Proper false x → Stations xs
    → Shaped stations (STATION ∷ kinds_of (flat x ++ flat_stations xs))
unfolding flat_stations
kinds_stations x s p no_stations = rw append-nil (G.last (G.begun (kinds_statements p s)))
kinds_stations x s p (a_station {x = y} t q rest) = rw kinds_append (G.next (G.begun (kinds_statements p s)) (kinds_stations y t q rest))

kinds_sequence : {rs : List Record} {xs : List Statements} → Sets rs → Stations xs → 1 ≤ length xs → Sequence (kinds_of (flat_file rs xs))
unfolding flat_stations
kinds_sequence no_sets no_stations h = absurd (not-suc-le-zero h)
kinds_sequence no_sets (a_station {x = x} s p rest) h = G.all (kinds_stations x s p rest)
kinds_sequence (a_set e sets) rest h = rw e (G.initial (kinds_sequence sets rest h))

-- kinds as records with nothing else in them
abbrev bare_records : List ℕ → List Record
bare_records = map (λ (k : ℕ). bare k 0)

all_bare : (ks : List ℕ) → All-bare (bare_records ks)
all_bare [] = tt
all_bare (k ∷ ks) = (λ e. refl, all_bare ks)

kinds_of_bare : (ks : List ℕ) → kinds_of (bare_records ks) ≡ ks
kinds_of_bare [] = refl
kinds_of_bare (k ∷ ks) = ap (λ (l : List ℕ). k ∷ l) (kinds_of_bare ks)

pub is_sequence : (ks : List ℕ) → well_shaped ks ≡ true → Sequence ks
unfolding well_shaped
is_sequence ks e =
    let rs = bare_records ks in
    let w = whole rs (all_bare ks) (ap well_shaped (kinds_of_bare ks) ∙ e) in
    subst Sequence (ap kinds_of w.same ∙ kinds_of_bare ks) (kinds_sequence w.sets w.stations w.one_at_least)
