-- A turn of the loop that counts what is open: the place that is too deep is found from the next place on. Assumes nothing.
use mathlib.Core.Path.{◌≡◌, ◌∙◌}
use mathlib.Core.Bool.{true, false, ◌&&◌}
use mathlib.Core.List.{List, [], ◌∷◌}
use Prim.Native.Nat.{ℕ, ◌+◌, ◌*◌, ◌≤◌, ◌<◌}
use native.Mathlib.Omega.{arith}
use lib.Dec.{leb}
use lib.ListN.{length, get_or, drop, drop_of_length-le}
use borrow.Author.Tests.{leb-false}
use Rattle.rules.specs.Words.{among}
use Rattle.rules.specs.Names.{FI, OD, END, max_depth}
use Rattle.rules.specs.Records.{record_count}
use Rattle.rules.specs.Shape.{opens, depth_after, too_deep_at}
use Rattle.rules.specs.Check.{kinds, depth_place}
use Rattle.laws.proofs.Choice.{by_test}
use Rattle.laws.proofs.Kind.{length_kinds, kinds_from}

-- the place is found from a place on, with so many open there
abbrev pub Deep : List ℕ → ℕ → ℕ → Type 0
Deep file depth at = depth_place file ≡ at + too_deep_at depth (drop at (kinds file))

pub deep_start : (file : List ℕ) → Deep file 0 0
unfolding depth_place
deep_start file = omega arith

pub deep_end : (file : List ℕ) (depth at : ℕ) → Deep file depth at → record_count file ≤ at → depth_place file ≡ at
unfolding too_deep_at
deep_end file depth at found below =
    let e : length (kinds file) ≤ at = rw length_kinds below in
    found ∙ rw (drop_of_length-le (kinds file) e) (omega arith)

module _ (file : List ℕ) (depth at : ℕ) (h : at < record_count file) (found : Deep file depth at) where
  pub deep_here : (opens (get_or file (8 * at) 0) && leb max_depth depth) ≡ true → depth_place file ≡ at
  unfolding too_deep_at
  deep_here e = found ∙ rw (kinds_from file at h, e) (omega arith)

  pub deep_on : (opens (get_or file (8 * at) 0) && leb max_depth depth) ≡ false → Deep file (depth_after depth (get_or file (8 * at) 0)) (at + 1)
  unfolding too_deep_at
  deep_on e = found ∙ rw (kinds_from file at h, e) (omega arith)

  -- what does not refuse leaves no more open than may be
  pub deep_within : depth ≤ max_depth → (opens (get_or file (8 * at) 0) && leb max_depth depth) ≡ false
      → depth_after depth (get_or file (8 * at) 0) ≤ max_depth
  deep_within l e =
      by_test (opens (get_or file (8 * at) 0)) (λ o. let l = leb-false max_depth depth (rw o at e) in rw o (omega arith))
      (λ o. by_test (among (get_or file (8 * at) 0) (FI ∷ OD ∷ END ∷ [])) (λ a. rw (o, a) (omega arith)) (λ a. rw (o, a) l))
