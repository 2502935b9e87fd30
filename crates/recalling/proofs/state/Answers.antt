-- `recalling::state` meets its contract. Assumes nothing.
use mathlib.Core.Path.{◌≡◌}
use Rattle.rules.specs.Kept.{kept_state}
use Rattle.recalling.proofs.Known.{recalled_whole}
use Rattle.recalling.proofs.state.Goals as goal

pub returns : goal.returns
unfolding kept_state
returns c =
    let s = kept_state c.args.part.now 1 in
    let vars : c.row.result ≡ s.vars = c.row.ensures in
    let positions : c.row-2.result ≡ s.positions = c.row-2.ensures in
    let priorities : c.row-3.result ≡ s.priorities = c.row-3.ensures in
    let counts : c.row-4.result ≡ s.counts = c.row-4.ensures in
    let m : c.read.result ≡ s.m = c.read.ensures in
    rw (recalled_whole c.args.part.now c.if-part-lt-KEPT_LENGTH.false, vars, positions, priorities, counts, m)
