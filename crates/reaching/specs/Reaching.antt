-- What a trace comes to: the picks are taken one after another, to the last or to the first that is refused. These are definitions.
use Rattle.std.specs.Prelude.{ℕ, zero, suc, ◌-◌, ◌*◌, ◌/◌, List, [], eqb, length, take, if◌then◌else◌}
use Rattle.rules.specs.Names.{LENGTH}
use Rattle.rules.specs.Records.{pick_at}
use Rattle.rules.specs.State.{State}
use Rattle.rules.specs.Lent.{Lent}
use Rattle.rules.specs.Step.{Stepped}
use Rattle.rules.specs.Trace.{end_line, taken_pick, wrong_picks}
use Rattle.tracing.specs.Tracing.{Tracing, all_printed}
use Rattle.tracing.specs.declared.Next.{Next}
use Rattle.tracing.specs.declared.Next.TheVariants.{Start, Pick, End, Nothing}

-- so many picks, from record i on: what the first that is refused answers, or else the last
unfoldable pub last_pick : List ℕ → List ℕ → ℕ → ℕ → State → Lent → Stepped
last_pick list picks i zero s lent = record { number = 0; state = s; lent = lent }
last_pick list picks i (suc count) s lent =
    let a = taken_pick list s lent (pick_at picks i) in
    if eqb a.number 0 then last_pick list picks (suc i) count a.state a.lent else a

-- the number that stops a trace, the state that it found, and what is lent, by what comes next
abbrev pub stop_by : List ℕ → List ℕ → Lent → State → Next → Stepped
stop_by list picks lent s Start =
    if wrong_picks picks then record { number = LENGTH; state = s; lent = lent } else last_pick list picks 0 (length picks / 2) s lent
stop_by list picks lent s (Pick i) = last_pick list picks i (length picks / 2 - i) s lent
stop_by list picks lent s (End number) = record { number = number; state = s; lent = lent }
stop_by list picks lent s Nothing = record { number = 0; state = s; lent = lent }

unfoldable pub stop : List ℕ → List ℕ → Lent → Tracing → Stepped
stop list picks lent t = stop_by (take (16 * t.count) list) picks lent t.state t.next

-- the state reached, the count of list records, the last text that is printed, and what is lent
pub record Reached : Type 0 where
  pub state : State
  pub count : ℕ
  pub text : List ℕ
  pub lent : Lent

-- what a trace comes to from here, where the text printed before is this one
unfoldable pub reached_after : List ℕ → List ℕ → List ℕ → Lent → Tracing → Reached
reached_after text list picks lent t =
    let a = stop list picks lent t in
    record { state = a.state; count = t.count; text = if all_printed t then text else end_line a.number; lent = a.lent }

-- and where nothing is printed yet
abbrev pub reached : List ℕ → List ℕ → Lent → Tracing → Reached
reached = reached_after []
