-- What is reached is where the trace ends: the text is its last line, the state is the one whose line comes before that, and it is the state that
-- the calls of the trace lead to, made one after another. These are claims: proofs/Ends.antt shows those about the text, and
-- proofs/Calls.antt the last.
use Rattle.std.specs.Prelude.{◌≡◌, ◌≢◌, false, ◌&&◌, List, [], ◌∷◌, ◌++◌, ℕ, suc, ◌*◌, ◌/◌, eqb, length, take, if◌then◌else◌}
use Rattle.rules.specs.Names.{undo_station}
use Rattle.rules.specs.Records.{Pick, pick_at}
use Rattle.rules.specs.State.{zeros}
use Rattle.rules.specs.Calls.{ruled}
use Rattle.rules.specs.History.{Call, START, STEP, UNDO, Now, called, history, answered}
use Rattle.rules.specs.Trace.{line, end_line, wrong_picks, own_buffers, trace}
use Rattle.tracing.specs.Claims.{fresh_opened}
use Rattle.tracing.specs.declared.Next.TheVariants.{Start}
use Rattle.reaching.specs.Reaching.{Reached, stop, reached}

-- what the trace of three files comes to
abbrev pub reached_by : List ℕ → List ℕ → List ℕ → Reached
reached_by program starts picks = let o = fresh_opened program starts in reached o.list picks o.lent o.tracing

-- the rules' trace of them is some text and then the text reached
abbrev pub EndsTrace : Type 0
EndsTrace =
    (program starts picks : List ℕ)
    → (before : List ℕ) × (trace program starts picks ≡ before ++ (reached_by program starts picks).text)

-- which is its last line, with the number that stopped it
abbrev pub LastLine : Type 0
LastLine =
    (program starts picks : List ℕ)
    → let o = fresh_opened program starts in
    (reached_by program starts picks).text ≡ end_line (stop o.list picks o.lent o.tracing).number

-- and where the start is not refused, the line before it is that of the state reached, by the list's counted records
abbrev pub LastState : Type 0
LastState =
    (program starts picks : List ℕ)
    → let o = fresh_opened program starts in
    let r = reached_by program starts picks in
    o.tracing.next ≡ Start
    → (before : List ℕ) × (trace program starts picks ≡ before ++ (line (take (16 * r.count) o.list) r.state ++ r.text))

-- the call that a pick of the trace is: "Pick (255,0) means undo"
abbrev pub call_of : Pick → Call
call_of p = if eqb p.station undo_station && eqb p.reset 0 then UNDO else STEP p

-- the calls of so many picks, from record i on, each given the last state answered, to the last or to the first that is refused: the number that
-- this one answers, or 0, and how things are then
pub data Comes (list picks : List ℕ) : ℕ → ℕ → Now → ℕ → Now → Type 0 where
  no_more : {i : ℕ} {now : Now} → Comes list picks i 0 now 0 now
  goes_on : {i count number : ℕ} {now end : Now}
      → answered ruled list now (call_of (pick_at picks i)) ≡ 0
      → Comes list picks (suc i) count (called ruled list now (call_of (pick_at picks i))) number end
      → Comes list picks i (suc count) now number end
  stops : {i count : ℕ} {now : Now}
      → answered ruled list now (call_of (pick_at picks i)) ≢ 0
      → Comes list picks i (suc count) now (answered ruled list now (call_of (pick_at picks i))) (called ruled list now (call_of (pick_at picks i)))

-- where neither the start nor the picks file is refused, the state reached is the one that those calls lead to from the start, and they come to the
-- number of the last line
abbrev pub LastCalls : Type 0
LastCalls =
    (program : List ℕ) (b : ℕ) (resets picks : List ℕ)
    → let o = fresh_opened program (b ∷ resets) in
    let r = reached_by program (b ∷ resets) picks in
    let list = take (16 * r.count) o.list in
    o.tracing.next ≡ Start → wrong_picks picks ≡ false
    → (end : Now) × Comes list picks 0 (length picks / 2) (history ruled list zeros own_buffers (START b resets ∷ []))
    (stop o.list picks o.lent o.tracing).number end × (r.state ≡ end.state)
