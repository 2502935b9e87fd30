-- An accepted file as a program of document 002, and what remains of a station at each of its records in the built-in list. These are
-- definitions.
use Rattle.std.specs.Prelude.{List, [], ◌∷◌, ◌++◌, ℕ, zero, suc, ◌+◌, ◌-◌, length, get_or}
use Rattle.rules.specs.Records.{Record}
use Rattle.rules.specs.Trees.{Statements, stations_of, initial_part, size}
use Rattle.language.specs.Language.{skip, assign, if_fi, while_od, await_end, Program, E, ◌before◌, ◌⨾◌}

-- a station's statements
unfoldable pub program_of : Statements → Program
program_of Statements.nothing = E
program_of (Statements.skip rest) = skip before program_of rest
program_of (Statements.assign r rest) = assign r before program_of rest
program_of (Statements.branch r x y rest) = if_fi r (program_of x) (program_of y) before program_of rest
program_of (Statements.loop r x rest) = while_od r (program_of x) before program_of rest
program_of (Statements.await r x rest) = await_end r (program_of x) before program_of rest

-- "S0 is a sequence of assignments", the initial part
unfoldable pub assignments : List Record → Program
assignments [] = E
assignments (r ∷ rs) = assign r before assignments rs

-- what remains at each record of statements, in the order in which they are laid, where K remains after them. After a branch comes the
-- rest; after a loop's part comes the loop again; a body's records tell what remains of the body
unfoldable pub rests : Program → Statements → List Program
rests K Statements.nothing = []
rests K (Statements.skip rest) = program_of (Statements.skip rest) ⨾ K ∷ rests K rest
rests K (Statements.assign r rest) = program_of (Statements.assign r rest) ⨾ K ∷ rests K rest
rests K (Statements.branch r x y rest) =
    let after = program_of rest ⨾ K in
    program_of (Statements.branch r x y rest) ⨾ K ∷ (rests after x ++ (rests after y ++ rests K rest))
rests K (Statements.loop r x rest) =
    let again = program_of (Statements.loop r x rest) ⨾ K in
    again ∷ (rests again x ++ rests K rest)
rests K (Statements.await r x rest) = program_of (Statements.await r x rest) ⨾ K ∷ (rests E x ++ rests K rest)

-- of stations whose steps stand from the place p on, what remains of station j at the place q: E past its last step, at its STOP
unfoldable pub remains : ℕ → List Statements → ℕ → ℕ → Program
remains p [] j q = E
remains p (x ∷ stations) zero q = get_or (rests E x) (q - p) E
remains p (x ∷ stations) (suc j) q = remains (suc (p + size x)) stations j q

-- what the record at the place q of station j stands for, in the list of a file
abbrev pub stands_for : List ℕ → ℕ → ℕ → Program
stands_for file = remains (length (stations_of file) + length (initial_part file)) (stations_of file)
