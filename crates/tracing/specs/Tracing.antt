-- Where a trace stands, and the piece that is printed next; what is still to be printed, in the rules' words. These are definitions.
use Rattle.std.specs.Prelude.{ℕ, zero, suc, ◌-◌, ◌*◌, ◌/◌, Bool, true, false, List, [], ◌∷◌, ◌++◌, eqb, ltb, length, take, if◌then◌else◌}
use Rattle.rules.specs.Names.{LENGTH, RESET}
use Rattle.rules.specs.Records.{pick_at}
use Rattle.rules.specs.State.{State, zeros}
use Rattle.rules.specs.Lent.{Lent}
use Rattle.rules.specs.Build.{Built, build}
use Rattle.rules.specs.Start.{Started, start}
use Rattle.rules.specs.Trace.{end_line, taken_pick, picks_text, wrong_picks}
use Rattle.line.specs.Line.{line_of}
use Rattle.tracing.specs.declared.Next.{Next}
use Rattle.tracing.specs.declared.Next.TheVariants.{Start, Pick, End, Nothing}

-- the state reached, the count of list records, and what comes next
pub record Tracing : Type 0 where
  pub state : State
  pub count : ℕ
  pub next : Next

-- a piece of the trace, where it stands after it, and what is lent
pub record Piece : Type 0 where
  pub text : List ℕ
  pub tracing : Tracing
  pub lent : Lent

-- all is printed
abbrev pub all_printed : Tracing → Bool
all_printed t = elim t.next [ Start ↦ false | Pick i ↦ false | End number ↦ false | Nothing ↦ true ]

-- a piece after which the state stays, and this comes next
abbrev pub piece_then : Tracing → Lent → List ℕ → Next → Piece
piece_then t lent text next = record { text = text; tracing = record { state = t.state; count = t.count; next = next }; lent = lent }

-- the pick at record i: the line after it, or the last line where it is refused or there is none
unfoldable pub pick_piece : List ℕ → List ℕ → Lent → Tracing → ℕ → Piece
pick_piece list picks lent t i =
    let a = taken_pick list t.state lent (pick_at picks i) in
    let after : Tracing = record { state = a.state; count = t.count; next = t.next } in
    if ltb i (length picks / 2)
    then (if eqb a.number 0 then piece_then after a.lent (line_of list a.state) (Pick (suc i))
    else piece_then after a.lent (end_line a.number) Nothing)
    else piece_then t lent (end_line 0) Nothing

-- the piece that comes next, by the list's counted records
abbrev piece_by : List ℕ → List ℕ → Lent → Tracing → Next → Piece
piece_by list picks lent t Start = piece_then t lent (line_of list t.state) (if wrong_picks picks then End LENGTH else Pick 0)
piece_by list picks lent t (Pick i) = pick_piece list picks lent t i
piece_by list picks lent t (End number) = piece_then t lent (end_line number) Nothing
piece_by list picks lent t Nothing = piece_then t lent [] Nothing

unfoldable pub piece : List ℕ → List ℕ → Lent → Tracing → Piece
piece list picks lent t = piece_by (take (16 * t.count) list) picks lent t t.next

-- what is still to be printed
abbrev still_by : List ℕ → List ℕ → Lent → State → Next → List ℕ
still_by list picks lent s Start =
    line_of list s ++ (if wrong_picks picks then end_line LENGTH else picks_text list picks 0 (length picks / 2) s lent)
still_by list picks lent s (Pick i) = picks_text list picks i (length picks / 2 - i) s lent
still_by list picks lent s (End number) = end_line number
still_by list picks lent s Nothing = []

unfoldable pub still : List ℕ → List ℕ → Lent → Tracing → List ℕ
still list picks lent t = still_by (take (16 * t.count) list) picks lent t.state t.next

-- a trace that is refused before it begins: only the last line comes
abbrev pub ending : ℕ → Tracing
ending number = record { state = zeros; count = 0; next = End number }

-- where a trace begins, and its two buffers
pub record Opened : Type 0 where
  pub tracing : Tracing
  pub list : List ℕ
  pub lent : Lent

-- after the start
abbrev pub opened_by : ℕ → List ℕ → Started → Opened
opened_by count list a =
    if eqb a.number 0 then record { tracing = record { state = a.state; count = count; next = Start }; list = list; lent = a.lent }
    else record { tracing = ending a.number; list = list; lent = a.lent }

-- with the list built
unfoldable pub opened_list : ℕ → List ℕ → List ℕ → Lent → Opened
opened_list count list [] lent = record { tracing = ending RESET; list = list; lent = lent }
opened_list count list (b ∷ resets) lent = opened_by count list (start (take (16 * count) list) b resets lent)

-- after the build
abbrev pub opened_built : Built → List ℕ → Lent → Opened
opened_built a starts lent =
    if eqb a.number 0 then opened_list a.count a.buffer starts lent
    else record { tracing = ending a.number; list = a.buffer; lent = lent }

unfoldable pub opened : List ℕ → List ℕ → List ℕ → Lent → Opened
opened program starts list lent = opened_built (build program list) starts lent

-- the pieces of so many turns, put together
unfoldable pub printed : ℕ → List ℕ → List ℕ → Lent → Tracing → List ℕ
printed zero list picks lent t = []
printed (suc turns) list picks lent t =
    let p = piece list picks lent t in
    p.text ++ printed turns list picks p.lent p.tracing

-- so many pieces are left, at most
abbrev left_by : List ℕ → Next → ℕ
left_by picks Start = suc (suc (length picks / 2))
left_by picks (Pick i) = suc (length picks / 2 - i)
left_by picks (End number) = 1
left_by picks Nothing = 0

abbrev pub left : List ℕ → Tracing → ℕ
left picks t = left_by picks t.next
