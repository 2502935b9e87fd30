-- Statements read back from their records: `parts_of` undoes `flat`, whatever records come after. Assumes nothing.
use mathlib.Core.Path.{◌≡◌, refl, sym, ap, ◌∙◌}
use mathlib.Core.Bool.{Bool}
use mathlib.Core.List.{List, [], ◌∷◌, ◌++◌, tail}
use borrow.Author.Tests.{eq-eqb}
use Rattle.rules.specs.Names.{SET}
use Rattle.rules.specs.Records.{Record}
use Rattle.rules.specs.Trees.{Statements, nothing, skip, assign, branch, loop, await, before, parts_of, leading_sets}
use Rattle.reading.specs.Reading.{flat, flat_stations, flat_file, Stations, no_stations, a_station, Sets, no_sets, a_set}
use Rattle.reading.specs.Reading.{Proper, end, skips, assigns, branches, loops, awaits}
use Rattle.reading.proofs.Flat.{flat_branch, flat_loop, flat_await}
use Rattle.reading.proofs.Whole.{tail_set}

-- statements and then others
followed : Statements → Statements → Statements
followed nothing y = y
followed (skip rest) y = skip (followed rest y)
followed (assign r rest) y = assign r (followed rest y)
followed (branch r x z rest) y = branch r x z (followed rest y)
followed (loop r x rest) y = loop r x (followed rest y)
followed (await r x rest) y = await r x (followed rest y)

followed_nothing : (x : Statements) → followed x nothing ≡ x
unfolding followed
followed_nothing nothing = refl
followed_nothing (skip rest) = ap skip (followed_nothing rest)
followed_nothing (assign r rest) = ap (assign r) (followed_nothing rest)
followed_nothing (branch r x z rest) = ap (branch r x z) (followed_nothing rest)
followed_nothing (loop r x rest) = ap (loop r x) (followed_nothing rest)
followed_nothing (await r x rest) = ap (await r x) (followed_nothing rest)

before_before : (f g : Statements → Statements) (all : List Statements) → before f (before g all) ≡ before (λ x. f (g x)) all
before_before f g [] = refl
before_before f g (x ∷ xs) = refl

before_nothing : (all : List Statements) → before (followed nothing) all ≡ all
unfolding followed
before_nothing [] = refl
before_nothing (x ∷ xs) = refl

back : {b : Bool} {x : Statements} → Proper b x → (rs : List Record) → parts_of (flat x ++ rs) ≡ before (followed x) (parts_of rs)
unfolding parts_of flat followed
back end rs = sym (before_nothing (parts_of rs))
back (skips {rest = rest} p) rs = rw (back p rs) (before_before skip (followed rest) (parts_of rs))
back (assigns {r = r} {rest = rest} e p) rs = rw (e, back p rs) (before_before _ (followed rest) (parts_of rs))
back (branches {r = r} {x = x} {y = y} {rest = rest} e s p t q u) rs =
    ap parts_of (flat_branch r x rest rs y)
    ∙ rw (back p, back q, back u, followed_nothing x, followed_nothing y, e)
    (before_before _ (followed rest) (parts_of rs))
back (loops {r = r} {x = x} {rest = rest} e s p q) rs =
    ap parts_of (flat_loop r x rest rs)
    ∙ rw (back p, back q, followed_nothing, e) (before_before _ (followed rest) (parts_of rs))
back (awaits {r = r} {x = x} {rest = rest} e s p q) rs =
    ap parts_of (flat_await r x rest rs)
    ∙ rw (back p, back q, followed_nothing, e) (before_before _ (followed rest) (parts_of rs))

back_stations : {xs : List Statements} → Stations xs → parts_of (flat_stations xs) ≡ nothing ∷ xs
unfolding parts_of flat_stations
back_stations no_stations = refl
back_stations (a_station s p rest) = rw (back p, back_stations rest, followed_nothing)

pub back_file : {rs : List Record} {xs : List Statements} → Sets rs → Stations xs → tail (parts_of (flat_file rs xs)) ≡ xs
unfolding parts_of
back_file no_sets s = rw (back_stations s)
back_file {xs = xs} (a_set {r = r} {rs = rs} e rest) s = tail_set r (parts_of (flat_file rs xs)) e ∙ back_file rest s

no_leading : (xs : List Statements) → leading_sets (flat_stations xs) ≡ []
unfolding leading_sets flat_stations
no_leading [] = refl
no_leading (x ∷ xs) = refl

pub leading_file : {rs : List Record} (xs : List Statements) → Sets rs → leading_sets (flat_file rs xs) ≡ rs
unfolding leading_sets
leading_file xs no_sets = no_leading xs
leading_file xs (a_set {r = r} e rest) = rw (eq-eqb r.kind SET e, leading_file xs rest)
