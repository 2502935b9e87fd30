-- `vectors::kept::patch` is safe and ends. The measure is how many bytes of the patches are left. Assumes nothing.
use Rattle.std.proofs.Common.{length}
use Rattle.vectors.proofs.kept.patch.Given as goal

abbrev pub decreases-loop-head : goal.decreases-loop-head
decreases-loop-head l = length l.left
