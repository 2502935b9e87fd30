-- What the passes over a file rest on: how deep statements go, and where the WHILE of each of their ODs stands. Assumes nothing.
use mathlib.Core.Path.{◌≡◌, ◌∙◌}
use mathlib.Core.List.{List, [], ◌∷◌, ◌++◌}
use Prim.Native.Nat.{ℕ, suc, ◌+◌, ◌<◌}
use native.Mathlib.Omega.{arith}
use lib.ListN.{length, get_or, length-append, get_or-append}
use lib.Seq.{get_or-append-add}
use Rattle.rules.specs.Trees.{Statements, nothing, skip, assign, branch, loop, await, size}

-- with d parts open around them, never more than sixteen are open in the statements
abbrev pub Fits : ℕ → Statements → Type 0
Fits d nothing = Unit {0}
Fits d (skip rest) = Fits d rest
Fits d (assign r rest) = Fits d rest
Fits d (branch r x y rest) = (d < 16) × (Fits (suc d) x) × (Fits (suc d) y) × (Fits d rest)
Fits d (loop r x rest) = (d < 16) × (Fits (suc d) x) × (Fits d rest)
Fits d (await r x rest) = (d < 16) × (Fits (suc d) x) × (Fits d rest)

-- the places of the WHILE records of statements laid from a place on, in the order of their ODs
unfoldable pub loops_of : ℕ → Statements → List ℕ
loops_of p nothing = []
loops_of p (skip rest) = loops_of (suc p) rest
loops_of p (assign r rest) = loops_of (suc p) rest
loops_of p (branch r x y rest) = loops_of (suc p) x ++ (loops_of (suc p + size x) y ++ loops_of (suc p + size x + size y) rest)
loops_of p (loop r x rest) = loops_of (suc p) x ++ (p ∷ loops_of (suc p + size x) rest)
loops_of p (await r x rest) = loops_of (suc p) x ++ loops_of (suc p + size x) rest

-- the places `found` stand among all the places from number q on
abbrev pub Among : List ℕ → ℕ → List ℕ → Type 0
Among places q found = (k : ℕ) → k < length found → get_or places (q + k) 0 ≡ get_or found k 0

pub among_left : (places : List ℕ) (q : ℕ) (a b : List ℕ) → Among places q (a ++ b) → Among places q a
among_left places q a b h k l = h k (simp length-append (omega arith)) ∙ get_or-append a b 0 k l

pub among_right : (places : List ℕ) (q : ℕ) (a b : List ℕ) → Among places q (a ++ b) → Among places (q + length a) b
among_right places q a b h k l =
    let e : q + length a + k ≡ q + (length a + k) = omega arith in
    rw e (h (length a + k) (simp length-append (omega arith)) ∙ get_or-append-add a b k 0)
