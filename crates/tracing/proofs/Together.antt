-- The pieces of a trace put together are what is still to be printed; from the beginning, the rules' trace. Assumes nothing.
use Rattle.std.specs.Prelude.{if◌then◌else◌}
use mathlib.Core.Path.{◌≡◌, refl, sym, ap, ◌∙◌}
use mathlib.Core.Bool.{false, true≢false}
use mathlib.Core.List.{List, [], ◌∷◌, ◌++◌, append-nil}
use Prim.Native.Nat.{ℕ, zero, suc, ◌+◌, ◌-◌, ◌*◌, ◌/◌, ◌≤◌, ◌<◌}
use native.Mathlib.Nat.{sub-zero}
use native.Mathlib.Omega.{arith}
use borrow.Author.Tests.{ltb-true, ltb-false, eqb-true, le-leb}
use lib.Dec.{eqb, ltb}
use lib.ListN.{length, take, replicate}
use Rattle.rules.specs.Names.{RESET, max_list, max_stations}
use Rattle.rules.specs.Records.{pick_at}
use Rattle.rules.specs.State.{State}
use Rattle.rules.specs.Lent.{Lent}
use Rattle.rules.specs.Build.{Built, build}
use Rattle.rules.specs.Start.{Started, start}
use Rattle.rules.specs.Trace.{own_buffers, end_line, line, taken_pick, picks_text, wrong_picks, run_text, start_text, trace}
use Rattle.laws.proofs.Choice.{by_test}
use Rattle.line.specs.Line.{line_of}
use Rattle.tracing.specs.Tracing.{Tracing, Piece, Opened, pick_piece, piece, still, printed, left, all_printed, ending, opened, opened_built, opened_by, opened_list}
use Rattle.tracing.specs.Claims.{PieceFirst, fresh_opened, Traced}
use Rattle.tracing.specs.declared.Next.{Next}
use Rattle.tracing.specs.declared.Next.TheVariants.{Start, Pick, End, Nothing}
use Rattle.tracing.proofs.Few.{few_taken, few_started}

-- a state of at most 8 stations has its line whole
line_whole : (list : List ℕ) (s : State) → s.n ≤ max_stations → line_of list s ≡ line list s
line_whole list s few = rw (le-leb s.n max_stations few)

abbrev at : State → ℕ → Next → Tracing
at s count next = record { state = s; count = count; next = next }

-- a piece says what comes first of what is still to be printed
abbrev Says : List ℕ → List ℕ → Lent → Tracing → Piece → Type 0
Says list picks lent t p = still list picks lent t ≡ p.text ++ still list picks p.lent p.tracing

module _ (list picks : List ℕ) (lent : Lent) (s : State) (count : ℕ) where
  start_says : Says list picks lent (at s count Start) (piece list picks lent (at s count Start))
  unfolding still piece
  start_says =
      by_test (wrong_picks picks) (λ yes. rw yes) (λ no. rw (no, sub-zero))

  end_says : (number : ℕ) → Says list picks lent (at s count (End number)) (piece list picks lent (at s count (End number)))
  unfolding still piece
  end_says number = sym (append-nil (end_line number))

  nothing_says : Says list picks lent (at s count Nothing) (piece list picks lent (at s count Nothing))
  unfolding still piece
  nothing_says = refl

  -- after a pick
  taken_says : (i : ℕ) → i < length picks / 2
      → let own = take (16 * count) list in
      let a = taken_pick own s lent (pick_at picks i) in
      picks_text own picks i (length picks / 2 - i) s lent
      ≡ (if eqb a.number 0 then line_of own a.state ++ picks_text own picks (suc i) (length picks / 2 - suc i) a.state a.lent
      else end_line a.number)
  unfolding picks_text
  taken_says i more =
      let own = take (16 * count) list in
      let a = taken_pick own s lent (pick_at picks i) in
      let e : length picks / 2 - i ≡ suc (length picks / 2 - suc i) = omega arith in
      rw e
      (by_test (eqb a.number 0)
      (λ yes. rw (yes, line_whole own a.state (few_taken own s lent (pick_at picks i) (eqb-true _ 0 yes))))
      (λ no. rw no))

  pick_says : (i : ℕ) → Says list picks lent (at s count (Pick i)) (piece list picks lent (at s count (Pick i)))
  unfolding still piece pick_piece picks_text
  pick_says i =
      let own = take (16 * count) list in
      let a = taken_pick own s lent (pick_at picks i) in
      by_test (ltb i (length picks / 2))
      (λ yes.
      taken_says i (ltb-true _ _ yes)
      ∙ by_test (eqb a.number 0) (λ taken. rw (yes, taken)) (λ refused. rw (yes, refused, append-nil)))
      (λ no.
      let e : length picks / 2 - i ≡ 0 = omega (arith, ltb-false i (length picks / 2) no) in
      rw (e, no, append-nil))

-- whatever comes next
says : (list picks : List ℕ) (lent : Lent) (s : State) (count : ℕ) (next : Next)
    → Says list picks lent (at s count next) (piece list picks lent (at s count next))
says list picks lent s count Start = start_says list picks lent s count
says list picks lent s count (Pick i) = pick_says list picks lent s count i
says list picks lent s count (End number) = end_says list picks lent s count number
says list picks lent s count Nothing = nothing_says list picks lent s count

pub piece_first : PieceFirst
piece_first list picks lent t = says list picks lent t.state t.count t.next

less : (list picks : List ℕ) (lent : Lent) (s : State) (count : ℕ) (next : Next)
    → left picks (piece list picks lent (at s count next)).tracing ≤ left picks (at s count next) - 1
unfolding piece pick_piece
less list picks lent s count Start = by_test (wrong_picks picks) (λ yes. rw yes (omega arith)) (λ no. rw no (omega arith))
less list picks lent s count (Pick i) =
    let a = taken_pick (take (16 * count) list) s lent (pick_at picks i) in
    by_test (ltb i (length picks / 2))
    (λ yes.
    let more = ltb-true i (length picks / 2) yes in
    by_test (eqb a.number 0) (λ taken. rw (yes, taken) (omega arith)) (λ refused. rw (yes, refused) (omega arith)))
    (λ no. rw no (omega arith))
less list picks lent s count (End number) = omega arith
less list picks lent s count Nothing = omega arith

-- a piece leaves fewer than there were
left_less : (list picks : List ℕ) (lent : Lent) (t : Tracing) → left picks (piece list picks lent t).tracing ≤ left picks t - 1
left_less list picks lent t = less list picks lent t.state t.count t.next

some : (picks : List ℕ) (s : State) (count : ℕ) (next : Next) → all_printed (at s count next) ≡ false → 0 < left picks (at s count next)
some picks s count Start more = omega arith
some picks s count (Pick i) more = omega arith
some picks s count (End number) more = omega arith
some picks s count Nothing more = absurd (true≢false more)

-- where not all is printed, some are left
left_some : (picks : List ℕ) (t : Tracing) → all_printed t ≡ false → 0 < left picks t
left_some picks t = some picks t.state t.count t.next

-- where not all is printed, a piece leaves fewer to print
pub left_falls : (list picks : List ℕ) (lent : Lent) (t : Tracing) {p : Piece} → all_printed t ≡ false → p ≡ piece list picks lent t
    → left picks p.tracing < left picks t
left_falls list picks lent t more is = rw is (omega (arith, left_some picks t more, left_less list picks lent t))

none : (list picks : List ℕ) (lent : Lent) (s : State) (count : ℕ) (next : Next) → left picks (at s count next) ≤ 0
    → [] ≡ still list picks lent (at s count next)
unfolding still
none list picks lent s count Start few = absurd (omega arith)
none list picks lent s count (Pick i) few = absurd (omega arith)
none list picks lent s count (End number) few = absurd (omega arith)
none list picks lent s count Nothing few = refl

-- pieces enough are all of them
together : (turns : ℕ) (list picks : List ℕ) (lent : Lent) (t : Tracing) → left picks t ≤ turns → printed turns list picks lent t ≡ still list picks lent t
unfolding printed
together zero list picks lent t enough = none list picks lent t.state t.count t.next enough
together (suc turns) list picks lent t enough =
    let p = piece list picks lent t in
    ap (λ (l : List ℕ). p.text ++ l) (together turns list picks p.lent p.tracing (omega (arith, left_less list picks lent t)))
    ∙ sym (piece_first list picks lent t)

-- from the beginning
abbrev still_from : List ℕ → Opened → List ℕ
still_from picks o = still o.list picks o.lent o.tracing

-- after the start
abbrev text_by : List ℕ → List ℕ → Started → List ℕ
text_by list picks a = if eqb a.number 0 then run_text list picks a.state a.lent else end_line a.number

started_says : (count : ℕ) (list : List ℕ) (b : ℕ) (resets picks : List ℕ) (lent : Lent)
    → let a = start (take (16 * count) list) b resets lent in
    still_from picks (opened_by count list a) ≡ text_by (take (16 * count) list) picks a
unfolding still run_text
started_says count list b resets picks lent =
    let a = start (take (16 * count) list) b resets lent in
    by_test (eqb a.number 0)
    (λ yes. rw (yes, line_whole (take (16 * count) list) a.state (few_started _ b resets lent (eqb-true _ 0 yes))))
    (λ no. rw no)

-- refused before it begins
ending_says : (list picks : List ℕ) (lent : Lent) (number : ℕ) → still list picks lent (ending number) ≡ end_line number
unfolding still
ending_says list picks lent number = refl

-- with the list built
listed_says : (count : ℕ) (list starts picks : List ℕ)
    → still_from picks (opened_list count list starts own_buffers) ≡ start_text (take (16 * count) list) starts picks
unfolding opened_list start_text
listed_says count list [] picks = ending_says list picks _ RESET
listed_says count list (b ∷ resets) picks = started_says count list b resets picks _

-- whatever was built
built_says : (a : Built) (starts picks : List ℕ)
    → still_from picks (opened_built a starts own_buffers)
    ≡ (if eqb a.number 0 then start_text (take (16 * a.count) a.buffer) starts picks else end_line a.number)
built_says a starts picks =
    by_test (eqb a.number 0)
    (λ yes. rw yes (listed_says a.count a.buffer starts picks))
    (λ no. rw no (ending_says a.buffer picks _ a.number))

pub begun_says : (program starts picks : List ℕ) → still_from picks (fresh_opened program starts) ≡ trace program starts picks
unfolding opened trace
begun_says program starts picks = built_says (build program (replicate (16 * max_list) 0)) starts picks

listed_left : (count : ℕ) (list starts picks : List ℕ) (lent : Lent) → left picks (opened_list count list starts lent).tracing ≤ 2 + length picks / 2
unfolding opened_list
listed_left count list [] picks lent = omega arith
listed_left count list (b ∷ resets) picks lent =
    by_test (eqb (start (take (16 * count) list) b resets lent).number 0) (λ yes. rw yes (omega arith)) (λ no. rw no (omega arith))

-- a trace begins with its start or its last line
opened_left : (program starts picks list : List ℕ) (lent : Lent) → left picks (opened program starts list lent).tracing ≤ 2 + length picks / 2
unfolding opened
opened_left program starts picks list lent =
    let a = build program list in
    by_test (eqb a.number 0) (λ yes. rw yes (listed_left a.count a.buffer starts picks lent)) (λ no. rw no (omega arith))

pub traced : Traced
traced program starts picks turns many =
    let o = fresh_opened program starts in
    together turns o.list picks o.lent o.tracing (omega (arith, opened_left program starts picks (replicate (16 * max_list) 0) own_buffers))
    ∙ begun_says program starts picks
