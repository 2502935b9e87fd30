-- What the trace program prints, byte by byte, for its three files. These are definitions.
use Rattle.std.specs.Prelude.{ℕ, zero, suc, ◌+◌, ◌*◌, ◌/◌, ◌%◌, Bool, true, false, ◌&&◌, ◌||◌, List, [], ◌∷◌, ◌++◌, eqb, ltb, length, take, replicate, ℤ, pos, negsuc, if◌then◌else◌}
use Rattle.rules.specs.Names.{LENGTH, RESET, max_list, max_stations, max_steps, max_kept, kept_length, undo_station}
use Rattle.rules.specs.Records.{Pick, pick_at}
use Rattle.rules.specs.Build.{build}
use Rattle.rules.specs.State.{State, priority, count}
use Rattle.rules.specs.Lent.{Lent}
use Rattle.rules.specs.Start.{start}
use Rattle.rules.specs.Step.{Stepped, step}
use Rattle.rules.specs.Undo.{undo}
use Rattle.rules.specs.Lights.{lights}

-- the last bytes of a number in decimal: so many digits at most, the first of them not 0 unless it is the only one
unfoldable pub decimal_digits : ℕ → ℕ → List ℕ
decimal_digits zero x = []
decimal_digits (suc most) x = elim (ltb x 10) [ true ↦ (48 + x) ∷ [] | false ↦ decimal_digits most (x / 10) ++ ((48 + x % 10) ∷ []) ]

-- a number in decimal; it has no more digits than one more than itself
abbrev pub decimal : ℕ → List ℕ
decimal x = decimal_digits (suc x) x

-- below 0 with a minus sign
abbrev pub signed : ℤ → List ℕ
signed (pos x) = decimal x
signed (negsuc x) = 45 ∷ decimal (suc x)

-- so many entries, from station j on, each after a single space
unfoldable pub entries_text : (ℕ → List ℕ) → ℕ → ℕ → List ℕ
entries_text entry j zero = []
entries_text entry j (suc more) = 32 ∷ entry j ++ entries_text entry (suc j) more

-- so many priorities, and so many counts
abbrev pub priorities_text : State → ℕ → List ℕ
priorities_text s = entries_text (λ j. signed (priority s j)) 0

abbrev pub counts_text : State → ℕ → List ℕ
counts_text s = entries_text (λ j. decimal (count s j)) 0

-- "m, ready mask, in-turn mask, the n priorities, in decimal with single spaces", and document 02, T-05, "the first n" counts "after the
-- priorities"
unfoldable pub line : List ℕ → State → List ℕ
line list s =
    let lit = lights list s in
    decimal s.m ++ (32 ∷ decimal lit.ready) ++ (32 ∷ decimal lit.in_turn)
    ++ priorities_text s s.n ++ counts_text s s.n ++ (10 ∷ [])

-- "The last line is `end` and 0 or the refusal that stopped it"
unfoldable pub end_line : ℕ → List ℕ
end_line number = (101 ∷ 110 ∷ 100 ∷ 32 ∷ []) ++ decimal number ++ (10 ∷ [])

-- "Pick (255,0) means undo"
unfoldable pub taken_pick : List ℕ → State → Lent → Pick → Stepped
taken_pick list s lent p =
    if eqb p.station undo_station && eqb p.reset 0
    then record { number = (undo list s lent).number; state = (undo list s lent).state; lent = lent }
    else step list s lent p

-- so many picks, from record i on: a line "after each call taken", and the last line
unfoldable pub picks_text : List ℕ → List ℕ → ℕ → ℕ → State → Lent → List ℕ
picks_text list picks i zero s lent = end_line 0
picks_text list picks i (suc count) s lent =
    let a = taken_pick list s lent (pick_at picks i) in
    if eqb a.number 0 then line list a.state ++ picks_text list picks (suc i) count a.state a.lent
    else end_line a.number

-- "a picks file odd or over 8,192 bytes: `end 1` after the start line"
abbrev pub wrong_picks : List ℕ → Bool
wrong_picks picks = eqb (length picks % 2) 1 || ltb (2 * max_steps) (length picks)

-- after the start
unfoldable pub run_text : List ℕ → List ℕ → State → Lent → List ℕ
run_text list picks s lent =
    line list s ++ (if wrong_picks picks then end_line LENGTH else picks_text list picks 0 (length picks / 2) s lent)

-- its own log and kept states
abbrev pub own_buffers : Lent
own_buffers = record { log = replicate (2 * (max_stations + max_steps)) 0; kept = replicate (kept_length * max_kept) 0 }

-- "start.rec (B, then resets)"; "no B: 13"
unfoldable pub start_text : List ℕ → List ℕ → List ℕ → List ℕ
start_text list [] picks = end_line RESET
start_text list (b ∷ resets) picks =
    let a = start list b resets own_buffers in
    if eqb a.number 0 then run_text list picks a.state a.lent else end_line a.number

-- "Program refusals come first"; "Its own list and log buffers are never short"
unfoldable pub trace : List ℕ → List ℕ → List ℕ → List ℕ
trace program starts picks =
    let a = build program (replicate (16 * max_list) 0) in
    if eqb a.number 0 then start_text (take (16 * a.count) a.buffer) starts picks else end_line a.number
