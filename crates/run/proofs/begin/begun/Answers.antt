-- `run::begin::begun` meets its contract.
-- Assumes nothing.
use Prim.Native.Nat.{◌-◌, ◌≤◌, min}
use mathlib.Core.Path.{◌≡◌}
use native.Mathlib.Nat.{min-eq_left}
use native.Mathlib.Omega.{arith}
use Rattle.rules.specs.Names.{max_stations}
use Rattle.rules.specs.List.{initials}
use Rattle.rules.specs.Start.{started}
use Rattle.rules.specs.Undo.{restarted}
use Rattle.list.proofs.Given.{later_counted}
use Rattle.laws.proofs.Sound.{few_stations}
use Rattle.laws.proofs.Filled.{map_values}
use Rattle.run.proofs.begin.begun.Goals as goal
use Rattle.run.proofs.begin.begun.Goals.{After-stations-n}

pub overflow_sub-initials : goal.overflow_sub-initials
overflow_sub-initials c =
    omega (arith, c.stations-n.ensures, later_counted _ c.stations-n.ensures c.later.ensures)

-- at most eight stations
few : (c : After-stations-n) → c.stations-n.result ≤ max_stations
few c = omega (arith, c.stations-n.ensures, few_stations _ c.requires)

pub overflow_cast-result : goal.overflow_cast-result
overflow_cast-result c = omega (arith, few (goal.at.overflow_cast-result c).After-stations-n)

pub returns : goal.returns
unfolding restarted started
returns c =
    let first = later_counted _ c.stations-n.ensures c.later.ensures in
    let initial : c.later.result - c.stations-n.result ≡ initials c.args.list.now =
    omega (arith, c.stations-n.ensures) in
    let all : min c.stations-n.result max_stations ≡ c.stations-n.result = min-eq_left (few (goal.at.returns c).After-stations-n) in
    rw (
      c.initial_run.ensures,
      c.first_steps.ensures,
      c.first_priorities.ensures,
      initial,
      all,
      c.stations-n.ensures,
      map_values,
    )
