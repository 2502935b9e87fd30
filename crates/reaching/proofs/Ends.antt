-- The last text that is reached is the trace's own last line, and the line before it is that of the state reached. Assumes nothing.
use Rattle.std.specs.Prelude.{if◌then◌else◌}
use mathlib.Core.Path.{◌≡◌, refl, sym, ap, ◌∙◌}
use mathlib.Core.Bool.{Bool, true, false, ◌&&◌, false≢true}
use mathlib.Core.List.{List, [], ◌∷◌, ◌++◌, append_assoc}
use Prim.Native.Nat.{ℕ, zero, suc, ◌*◌, ◌/◌, ◌-◌}
use lib.Dec.{eqb}
use lib.ListN.{length, take, replicate}
use Rattle.rules.specs.Names.{undo_station, max_list}
use Rattle.rules.specs.Records as records
use Rattle.rules.specs.Records.{pick_at}
use Rattle.rules.specs.State.{State}
use Rattle.rules.specs.Lent.{Lent}
use Rattle.rules.specs.Build.{Built, build}
use Rattle.rules.specs.Start.{Started, start}
use Rattle.rules.specs.Trace.{end_line, line, taken_pick, picks_text, wrong_picks, run_text, own_buffers, start_text, trace}
use Rattle.laws.proofs.Choice.{by_test}
use Rattle.laws.proofs.Answers.{step_refused, undo_refused}
use Rattle.line.specs.Line.{line_of}
use Rattle.tracing.specs.Tracing.{Tracing, still, all_printed, Opened, opened, opened_by, opened_list, opened_built}
use Rattle.tracing.specs.Claims.{fresh_opened}
use Rattle.tracing.specs.declared.Next.{Next}
use Rattle.tracing.specs.declared.Next.TheVariants.{Start, Pick, End, Nothing}
use Rattle.tracing.proofs.Together.{begun_says}
use Rattle.reaching.specs.Reaching.{last_pick, stop_by, stop, reached_after, reached}
use Rattle.reaching.specs.Claims.{EndsTrace, LastLine, LastState}

-- a text that is some text and then this one
abbrev Ends : List ℕ → List ℕ → Type 0
Ends text last = (before : List ℕ) × (text ≡ before ++ last)

-- with one more text in front
ends_after : (front : List ℕ) {text last : List ℕ} → Ends text last → Ends (front ++ text) last
ends_after front {last = last} ends =
    (front ++ ends.0, ap (λ (l : List ℕ). front ++ l) ends.1 ∙ sym (append_assoc front ends.0 last))

picks_end : (count : ℕ) (list picks : List ℕ) (i : ℕ) (s : State) (lent : Lent)
    → Ends (picks_text list picks i count s lent) (end_line (last_pick list picks i count s lent).number)
unfolding picks_text last_pick
picks_end zero list picks i s lent = ([], refl)
picks_end (suc count) list picks i s lent =
    let a = taken_pick list s lent (pick_at picks i) in
    by_test (eqb a.number 0)
    (λ yes. rw yes (ends_after (line list a.state) (picks_end count list picks (suc i) a.state a.lent)))
    (λ no. rw no ([], refl))

still_ends_by : (list picks : List ℕ) (lent : Lent) (s : State) (count : ℕ) (next : Next)
    → let t : Tracing = record { state = s; count = count; next = next } in
    Ends (still list picks lent t) (reached list picks lent t).text
unfolding still stop reached_after
still_ends_by list picks lent s count Start =
    let own = take (16 * count) list in
    ends_after (line_of own s)
    (by_test (wrong_picks picks) (λ yes. rw yes ([], refl)) (λ no. rw no (picks_end (length picks / 2) own picks 0 s lent)))
still_ends_by list picks lent s count (Pick i) = picks_end (length picks / 2 - i) (take (16 * count) list) picks i s lent
still_ends_by list picks lent s count (End number) = ([], refl)
still_ends_by list picks lent s count Nothing = ([], refl)

-- what is still to be printed ends with the text reached
still_ends : (list picks : List ℕ) (lent : Lent) (t : Tracing) → Ends (still list picks lent t) (reached list picks lent t).text
still_ends list picks lent t = still_ends_by list picks lent t.state t.count t.next

pub ends_trace : EndsTrace
ends_trace program starts picks =
    let o = fresh_opened program starts in
    let ends = still_ends o.list picks o.lent o.tracing in
    (ends.0, sym (begun_says program starts picks) ∙ ends.1)

listed_more : (count : ℕ) (list starts : List ℕ) (lent : Lent) → all_printed (opened_list count list starts lent).tracing ≡ false
unfolding opened_list
listed_more count list [] lent = refl
listed_more count list (b ∷ resets) lent =
    by_test (eqb (start (take (16 * count) list) b resets lent).number 0) (λ yes. rw yes) (λ no. rw no)

-- a trace begins with something to print
opened_more : (program starts list : List ℕ) (lent : Lent) → all_printed (opened program starts list lent).tracing ≡ false
unfolding opened
opened_more program starts list lent =
    let a = build program list in
    by_test (eqb a.number 0) (λ yes. rw yes (listed_more a.count a.buffer starts lent)) (λ no. rw no)

-- where there is, the text reached is the last line
last_text : (list picks : List ℕ) (lent : Lent) (t : Tracing) → all_printed t ≡ false
    → (reached list picks lent t).text ≡ end_line (stop list picks lent t).number
unfolding reached_after
last_text list picks lent t more = rw more

pub last_line : LastLine
last_line program starts picks =
    let o = fresh_opened program starts in
    last_text o.list picks o.lent o.tracing (opened_more program starts _ _)

-- a pick that is refused answers the state given
refused_pick : (list : List ℕ) (s : State) (lent : Lent) (p : records.Pick) → eqb (taken_pick list s lent p).number 0 ≡ false → (taken_pick list s lent p).state ≡ s
unfolding taken_pick
refused_pick list s lent p other =
    by_test (eqb p.station undo_station && eqb p.reset 0)
    (λ undone. rw undone (undo_refused list s lent (rw undone at other)))
    (λ stepped. rw stepped (step_refused list s lent p (rw stepped at other)))

-- after the line of a state, the picks' text ends with the line of the state where they stop, and the last line
shown_end : (count : ℕ) (list picks : List ℕ) (i : ℕ) (s : State) (lent : Lent)
    → let a = last_pick list picks i count s lent in
    Ends (line list s ++ picks_text list picks i count s lent) (line list a.state ++ end_line a.number)
unfolding picks_text last_pick
shown_end zero list picks i s lent = ([], refl)
shown_end (suc count) list picks i s lent =
    let a = taken_pick list s lent (pick_at picks i) in
    by_test (eqb a.number 0)
    (λ yes. rw yes (ends_after (line list s) (shown_end count list picks (suc i) a.state a.lent)))
    (λ no. rw no ([], ap (λ (t : State). line list t ++ end_line a.number) (sym (refused_pick list s lent (pick_at picks i) no))))

run_shown : (list picks : List ℕ) (s : State) (lent : Lent)
    → let a = stop_by list picks lent s Start in Ends (run_text list picks s lent) (line list a.state ++ end_line a.number)
unfolding run_text
run_shown list picks s lent =
    by_test (wrong_picks picks) (λ yes. rw yes ([], refl)) (λ no. rw no (shown_end (length picks / 2) list picks 0 s lent))

-- of a trace that begins with its start
abbrev Shown : List ℕ → Opened → List ℕ → Type 0
Shown picks o text =
    let r = reached o.list picks o.lent o.tracing in
    o.tracing.next ≡ Start → Ends text (line (take (16 * r.count) o.list) r.state ++ r.text)

-- and not with its last line
abbrev pub begins : Next → Bool
begins Start = true
begins (Pick i) = false
begins (End number) = false
begins Nothing = false

started_shown : (count : ℕ) (list picks : List ℕ) (a : Started)
    → Shown picks (opened_by count list a) (if eqb a.number 0 then run_text (take (16 * count) list) picks a.state a.lent else end_line a.number)
unfolding stop reached_after
started_shown count list picks a =
    by_test (eqb a.number 0)
    (λ yes. rw yes (λ at_start. run_shown (take (16 * count) list) picks a.state a.lent))
    (λ no. rw no (λ at_start. absurd (false≢true (ap begins at_start))))

listed_shown : (count : ℕ) (list starts picks : List ℕ)
    → Shown picks (opened_list count list starts own_buffers) (start_text (take (16 * count) list) starts picks)
unfolding opened_list start_text
listed_shown count list [] picks = λ at_start. absurd (false≢true (ap begins at_start))
listed_shown count list (b ∷ resets) picks = started_shown count list picks (start (take (16 * count) list) b resets own_buffers)

built_shown : (a : Built) (starts picks : List ℕ)
    → Shown picks (opened_built a starts own_buffers)
    (if eqb a.number 0 then start_text (take (16 * a.count) a.buffer) starts picks else end_line a.number)
built_shown a starts picks =
    by_test (eqb a.number 0)
    (λ yes. rw yes (listed_shown a.count a.buffer starts picks))
    (λ no. rw no (λ at_start. absurd (false≢true (ap begins at_start))))

-- the text of a program with this buffer for its list
abbrev text_in : List ℕ → List ℕ → List ℕ → List ℕ → List ℕ
text_in program starts picks list =
    let a = build program list in
    if eqb a.number 0 then start_text (take (16 * a.count) a.buffer) starts picks else end_line a.number

opened_shown : (program starts picks list : List ℕ) → Shown picks (opened program starts list own_buffers) (text_in program starts picks list)
unfolding opened
opened_shown program starts picks list = built_shown (build program list) starts picks

text_is : (program starts picks : List ℕ) → trace program starts picks ≡ text_in program starts picks (replicate (16 * max_list) 0)
unfolding trace
text_is program starts picks = refl

pub last_state : LastState
last_state program starts picks at_start =
    let ends = opened_shown program starts picks (replicate (16 * max_list) 0) at_start in
    (ends.0, text_is program starts picks ∙ ends.1)
