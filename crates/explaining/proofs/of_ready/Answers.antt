-- `explaining::of_ready` meets its contract: the station is the lowest, or behind the first in turn, which is at most n. Assumes nothing.
use mathlib.Core.Path.{sym, ap, ◌∙◌}
use Prim.Native.Nat.{◌≤◌}
use native.Mathlib.Omega.{arith}
use Rattle.rules.specs.Why.{because_behind}
use Rattle.state.specs.View.{as_state}
use Rattle.laws.proofs.Places.{first_within}
use Rattle.explaining.proofs.Answers.{lowest_known, first_known}
use Rattle.explaining.proofs.of_ready.Goals as goal

pub returns-then-lowest_of : goal.returns-then-lowest_of
returns-then-lowest_of c =
    let s = as_state c.args.state.now in
    let lowest = lowest_known c.args.list.now s c.requires c.ready-all.ensures c.args.station in
    rw (sym lowest ∙ sym c.lowest_of.ensures ∙ c.if-lowest_of.true)

pub overflow_cast-result : goal.overflow_cast-result
overflow_cast-result c =
    let within : c.unwrap_or-ahead.result ≤ c.args.state.now.n = rw (c.unwrap_or-ahead.ensures, c.first_in_turn.ensures.0) (first_within _ _) in
    record { fits = omega (arith, within, c.requires) }

pub returns : goal.returns
returns c =
    let s = as_state c.args.state.now in
    let lowest = lowest_known c.args.list.now s c.requires c.ready-all.ensures c.args.station in
    let ahead = c.unwrap_or-ahead.ensures ∙ c.first_in_turn.ensures.0 ∙ first_known c.args.list.now s c.requires c.ready-all.ensures in
    rw (sym lowest ∙ sym c.lowest_of.ensures ∙ c.if-lowest_of.false) (ap because_behind ahead)
