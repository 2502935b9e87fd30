-- `list::sound` meets its contract: the tests that come before the records refuse as the rules' do, and at the number of stations and the
-- place of the first later record that are counted the rest are those of the rules. Assumes nothing.
use mathlib.Core.Path.{◌≡◌}
use mathlib.Core.Bool.{true, false, ◌&&◌}
use native.Mathlib.Omega.{arith}
use Prim.Native.Nat.{◌%◌, ◌≤◌}
use lib.Dec.{eqb, leb}
use lib.ListN.{length}
use borrow.Author.Tests.{eq-eqb, le-leb}
use Rattle.std.proofs.lemmas.Grind.{common_steps}
use Rattle.rules.specs.Names.{max_list, max_stations}
use Rattle.rules.specs.Records.{list_count}
use Rattle.rules.specs.List.{sound_list}
use Rattle.list.proofs.Given.{sound_given}
use Rattle.list.proofs.sound.Goals as goal

pub returns-then-list-ne0 : goal.returns-then-list-ne0
unfolding sound_list
returns-then-list-ne0 c =
    let list = c.args.list.now in
    let uneven_or_many : (eqb (length list % 16) 0 && leb (list_count list) max_list) ≡ false = grind (arith, common_steps) in
    rw uneven_or_many

pub returns-then-not-contains : goal.returns-then-not-contains
unfolding sound_list
returns-then-not-contains c =
    let n = c.stations-n.result in
    let short : list_count c.args.list.now ≤ max_list = omega arith in
    let many : (leb 1 n && leb n max_stations) ≡ false = grind (arith, common_steps) in
    rw (eq-eqb _ _ c.if-list-ne0.false, le-leb _ _ short, ← c.stations-n.ensures, many)

pub returns : goal.returns
returns c =
    let n = c.stations-n.result in
    let short : list_count c.args.list.now ≤ max_list = omega arith in
    let few : (leb 1 n && leb n max_stations) ≡ true = grind (arith, common_steps) in
    rw (
      sound_given _ c.stations-n.ensures c.later-later.ensures,
      eq-eqb _ _ c.if-list-ne0.false,
      le-leb _ _ short,
      few,
      c.each_init_right.ensures,
      c.each_initial_right.ensures,
      c.each_later_right.ensures,
    )
