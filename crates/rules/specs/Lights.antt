-- LIGHTS. These are definitions.
use Rattle.std.specs.Prelude.{ℕ, zero, suc, ◌-◌, Bool, false, ◌&&◌, ◌||◌, not, List, [], ◌∷◌, eqb, leb, replicate, if◌then◌else◌}
use Rattle.rules.specs.Words.{among, mask, values, Test, ◌refuses◌at◌, refusal}
use Rattle.rules.specs.Names.{SET, IF, WHILE, AWAIT, LIST, STATE, variables}
use Rattle.rules.specs.Records.{Record, list_record_at, list_count}
use Rattle.rules.specs.List.{sound_list}
use Rattle.rules.specs.State.{State, sound_state}
use Rattle.rules.specs.Ready.{next_step, ready, waiting, ended, lowest}

-- the record itself reads variable v: SET's b and variable k, and a condition's
unfoldable pub reads : ℕ → Record → Bool
reads v r =
    if eqb r.kind SET
    then among r.op (1 ∷ 2 ∷ 3 ∷ 4 ∷ 5 ∷ []) && eqb r.b v || among r.op (4 ∷ 5 ∷ []) && eqb r.k v
    else if among r.kind (IF ∷ WHILE ∷ AWAIT ∷ []) then eqb r.b v || leb 4 r.op && eqb r.k v
    else false

-- the record itself writes variable v
unfoldable pub writes : ℕ → Record → Bool
writes v r = eqb r.kind SET && eqb r.a v

-- of so many records from a place on, the places of those that are led to: by what came before, or by the targets of one taken on the way
unfoldable pub led_to : List ℕ → ℕ → ℕ → List ℕ → List ℕ
led_to list zero place wanted = []
led_to list (suc count) place wanted =
    let e = list_record_at list place in
    if among place wanted then place ∷ led_to list count (suc place) (e.t1 ∷ e.t2 ∷ wanted)
    else led_to list count (suc place) wanted

-- "its body is every record reached from its t1 by targets of inside records"
unfoldable pub body : List ℕ → ℕ → List ℕ
body list t1 = led_to list (list_count list - t1) t1 (t1 ∷ [])

unfoldable pub some_of : (ℕ → Bool) → List ℕ → Bool
some_of f [] = false
some_of f (p ∷ ps) = f p || some_of f ps

-- station j's next step does this, itself or, at a ready AWAIT, in its body, "branches not taken included". Document 02, T-02: "a waiting AWAIT
-- reads only the variables of its condition and writes none; a ready AWAIT is shown as before"
unfoldable pub touches : (Record → Bool) → List ℕ → State → ℕ → Bool
touches does list s j =
    let e = next_step list s j in
    does e.own || eqb e.own.kind AWAIT && ready list s j && some_of (λ p. does (list_record_at list p).own) (body list e.t1)

-- "four station masks, bit i for station i (ready; in turn …; waiting; ended), and two rows of 32 masks"
pub record Lights : Type 0 where
  pub number : ℕ
  pub ready : ℕ
  pub in_turn : ℕ
  pub waiting : ℕ
  pub ended : ℕ
  pub rows : List (List ℕ)

-- "in turn, that is ready with no ready station of lower priority number"
abbrev pub in_turn : List ℕ → State → ℕ → Bool
in_turn list s j = ready list s j && lowest list s j

-- "which stations' next steps read, and which write, each variable"
abbrev pub row_of : (ℕ → Record → Bool) → List ℕ → State → List ℕ
row_of does list s = values (λ v. mask (touches (does v) list s) s.n) variables

abbrev pub dark : List ℕ
dark = replicate variables 0

abbrev pub lights_tests : List ℕ → State → List Test
lights_tests list s = (not (sound_list list) refuses LIST at 0) ∷ (not (sound_state list s) refuses STATE at 0) ∷ []

-- "A refusal answers its number and … (start and lights: all zeros)"
unfoldable pub lights : List ℕ → State → Lights
lights list s =
    let number = refusal (lights_tests list s) in
    if eqb number 0
    then record {
      number = 0;
      ready = mask (ready list s) s.n;
      in_turn = mask (in_turn list s) s.n;
      waiting = mask (waiting list s) s.n;
      ended = mask (ended list s) s.n;
      rows = row_of reads list s ∷ row_of writes list s ∷ [];
    }
    else record { number = number; ready = 0; in_turn = 0; waiting = 0; ended = 0; rows = dark ∷ dark ∷ [] }
