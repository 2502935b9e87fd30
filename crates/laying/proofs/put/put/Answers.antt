-- `laying::put::put` meets its contract: where there is room, the sixteen bytes are copied to their place.
-- Assumes nothing.
use mathlib.Core.Path.{◌≡◌}
use Prim.Native.Nat.{◌+◌, ◌*◌, ◌≤◌}
use native.Mathlib.Omega.{arith}
use lib.ListN.{length}
use borrow.Author.Rules.{rules}
use borrow.Author.Tests.{le-leb}
use Rattle.laying.specs.Laid.{put_at}
use Rattle.laying.proofs.Written.{copied}
use Rattle.laying.proofs.put.put.Goals as goal

pub returns-then-at-list : goal.returns-then-at-list
unfolding put_at
returns-then-at-list c =
    let sixteen : length c.into-bytes.result ≡ 16 = search rules in
    let room : 16 * c.args.p + 16 ≤ length c.args.list.now = omega arith in
    rw (le-leb _ _ room, c.copy_from_slice.ensures.after, ← c.into-bytes.ensures) (copied _ _ _ c.into-bytes.result (omega arith))
