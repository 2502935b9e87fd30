-- A part of the buffer that is copied over is the bytes put into the buffer. Assumes nothing.
use mathlib.Core.Path.{◌≡◌}
use mathlib.Core.List.{List}
use Prim.Native.Nat.{ℕ}
use lib.ListN.{length}
use lib.Seq.{drop-drop}
use borrow.Rule.Slice.PartMut.{put_mid}
use Rattle.rules.specs.Words.{written}

pub copied : (buffer : List ℕ) (offset n : ℕ) (bytes : List ℕ) → n ≡ length bytes → put_mid offset n buffer bytes ≡ written buffer offset bytes
unfolding written
copied buffer offset n bytes e = rw (e, drop-drop)
