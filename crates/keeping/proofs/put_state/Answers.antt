-- `keeping::put_state` meets its contract. Assumes nothing.
use mathlib.Core.Path.{◌≡◌, refl}
use Prim.Native.Nat.{◌-◌, ◌/◌, ◌%◌}
use native.Mathlib.Omega.{arith}
use lib.ListN.{length}
use borrow.Author.Rules.{rules}
use Rattle.state.specs.View.{as_state}
use Rattle.keeping.proofs.Put.{state_put, written_part}
use Rattle.keeping.proofs.put_state.Goals as goal

pub returns : goal.returns
returns c =
    let counts = c.put_row-4 in
    let size : length counts.new.place - 176 ≡ 8 = omega (arith, counts.auto.place, c.put_row-3.auto.place, c.put_row-2.auto.place, c.put_row.auto.place) in
    let m = c.args.state.now.m in
    let high : m / 256 % 256 ≡ m / 256 = omega arith in
    state_put _ _ _ _ _ _ (as_state c.args.state.now) (search rules) (search rules) (search rules) (search rules) c.requires
    c.put_row.ensures c.put_row-2.ensures c.put_row-3.ensures counts.ensures
    (rw (size, c.copy_from_slice.ensures.after, c.to_le_bytes.ensures, high) (written_part counts.new.place _ 176 8 refl))
