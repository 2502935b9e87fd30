-- Variables, and what SET and the conditions make of them. These are definitions.
use Rattle.std.specs.Prelude.{ℕ, ◌+◌, ◌-◌, ◌%◌, ◌^◌, Bool, not, List, eqb, leb, ltb, get_or, set, if◌then◌else◌}
use Rattle.rules.specs.Records.{Record}

-- "Sums and differences wrap at 2^32"
abbrev pub plus : ℕ → ℕ → ℕ
plus x y = (x + y) % 2 ^ 32

abbrev pub minus : ℕ → ℕ → ℕ
minus x y = (x + (2 ^ 32 - y)) % 2 ^ 32

-- "op 0: k … op 1: b … op 2: b+k. op 3: b-k. op 4: b + variable k. op 5: b - variable k"
unfoldable pub set_value : List ℕ → Record → ℕ
set_value vars r =
    let b = get_or vars r.b 0 in
    if eqb r.op 0 then r.k
    else if eqb r.op 1 then b
    else if eqb r.op 2 then plus b r.k
    else if eqb r.op 3 then minus b r.k
    else if eqb r.op 4 then plus b (get_or vars r.k 0)
    else minus b (get_or vars r.k 0)

-- "SET variable a"
abbrev pub assigned : List ℕ → Record → List ℕ
assigned vars r = set vars r.a (set_value vars r)

-- "b equals, differs from, is below, is at least"
abbrev pub compares : ℕ → ℕ → ℕ → Bool
compares op x y =
    if eqb op 0 then eqb x y
    else if eqb op 1 then not (eqb x y)
    else if eqb op 2 then ltb x y
    else leb y x

-- "op 0 to 3 … k. op 4 to 7: the same against variable k"
unfoldable pub holds : List ℕ → Record → Bool
holds vars r = compares (r.op % 4) (get_or vars r.b 0) (if ltb r.op 4 then r.k else get_or vars r.k 0)
