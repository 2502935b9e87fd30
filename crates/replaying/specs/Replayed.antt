-- So many records of a log, each picked as `picking` makes it of any list and of the parts of any state. These are definitions.
use Rattle.std.specs.Prelude.{ℕ, zero, suc, List, eqb, if◌then◌else◌}
use Rattle.rules.specs.Records.{pick_at}
use Rattle.rules.specs.State.{State}
use Rattle.rules.specs.Step.{Picked}
use Rattle.rules.specs.Undo.{Undone}
use Rattle.laws.specs.Narrow.{narrow}
use Rattle.picking.specs.Took.{Took, state_of, took, with_parts}

-- so many records, from record i on: the parts after them; or those before the first that is refused, and its refusal
unfoldable pub took_from : List ℕ → List ℕ → ℕ → ℕ → ℕ → ℕ → Took → Took
took_from list log n b i zero t = t
took_from list log n b i (suc count) t =
    let a = took (narrow list) (state_of t.vars t.positions t.priorities t.counts n b) (pick_at log i) in
    if eqb a.number 0 then took_from list log n b (suc i) count a else a

-- the parts of a state, with a number answered; and of what a replay reaches
abbrev pub took_of : ℕ → State → Took
took_of number s =
    record { number = number; vars = s.vars; positions = s.positions; priorities = s.priorities; counts = s.counts }

abbrev pub as_took : Undone → Took
as_took u = took_of u.number u.state

-- so of a state, as the code holds it
abbrev pub replayed : List ℕ → List ℕ → ℕ → ℕ → State → Picked
replayed list log i count s =
    let t = took_from list log s.n s.b i count (took_of 0 s) in
    record { number = t.number; state = with_parts s t }
