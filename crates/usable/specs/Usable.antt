-- The state in a part of a buffer that begins at a kept place, and when it may be gone on from. This is a definition.
use Rattle.std.specs.Prelude.{ℕ, ◌*◌, Bool, ◌&&◌, List, eqb, leb, length}
use Rattle.rules.specs.Names.{kept_every, kept_length}
use Rattle.rules.specs.State.{sound_state}
use Rattle.rules.specs.Kept.{kept_zeros}
use Rattle.recalling.specs.Recalled.{recalled}

-- the rules' `kept_right` of such a part, with the number of its place
unfoldable pub usable : List ℕ → List ℕ → ℕ → ℕ → Bool
usable list part b j =
    let s = recalled part in
    (leb kept_length (length part) && kept_zeros part 1) && sound_state list s && eqb s.m (kept_every * j) && eqb s.b b
