-- The shape of a written sequence, as the document says it, on the kinds of its records alone. These are definitions.
use Rattle.std.specs.Prelude.{ℕ, Bool, true, false, List, [], ◌∷◌, ◌++◌}
use Rattle.rules.specs.Names.{STATION, SKIP, SET, IF, ELSE, FI, WHILE, OD, AWAIT, END}

-- what a list of kinds may be: one statement or one or more of them, in a body (true) or not; a station; one or more stations; all
pub data Sort : Type 0 where
  statement statements : Bool → Sort
  station stations sequence : Sort

pub data Shaped : Sort → List ℕ → Type 0 where
  -- "A statement is SKIP, SET, IF statements ELSE statements FI, WHILE statements OD, or AWAIT body END", and
  -- "A body holds SKIP, SET and IF only, at every depth"
  skip : {b : Bool} → Shaped (statement b) (SKIP ∷ [])
  set : {b : Bool} → Shaped (statement b) (SET ∷ [])
  branch : {b : Bool} {x y : List ℕ} → Shaped (statements b) x → Shaped (statements b) y
      → Shaped (statement b) (IF ∷ (x ++ (ELSE ∷ (y ++ (FI ∷ [])))))
  loop : {x : List ℕ} → Shaped (statements false) x → Shaped (statement false) (WHILE ∷ (x ++ (OD ∷ [])))
  await : {x : List ℕ} → Shaped (statements true) x → Shaped (statement false) (AWAIT ∷ (x ++ (END ∷ [])))
  -- "each list of statements has at least one"
  one : {b : Bool} {x : List ℕ} → Shaped (statement b) x → Shaped (statements b) x
  more : {b : Bool} {x y : List ℕ} → Shaped (statement b) x → Shaped (statements b) y → Shaped (statements b) (x ++ y)
  -- "A station is STATION and one or more statements"
  begun : {x : List ℕ} → Shaped (statements false) x → Shaped station (STATION ∷ x)
  last : {x : List ℕ} → Shaped station x → Shaped stations x
  next : {x y : List ℕ} → Shaped station x → Shaped stations y → Shaped stations (x ++ y)
  -- "any number of SET records (the initial part), then stations"
  all : {x : List ℕ} → Shaped stations x → Shaped sequence x
  initial : {x : List ℕ} → Shaped sequence x → Shaped sequence (SET ∷ x)

-- the kinds are well shaped
abbrev pub Sequence : List ℕ → Type 0
Sequence = Shaped sequence

-- they begin a well-shaped sequence: some "continuation of any length (any depth, any number of stations) is well shaped"
abbrev pub Continues : List ℕ → Type 0
Continues kinds = (rest : List ℕ) × Sequence (kinds ++ rest)
