-- Passing over, in the steps that stand. These are definitions.
use Rattle.std.specs.Prelude.{ℕ, zero, suc, ◌+◌, ◌≢◌, ◌&&◌, not, List, eqb, if◌then◌else◌}
use Rattle.rules.specs.Ready.{ready}
use Rattle.rules.specs.History.{Steps, begun, taken, top}

-- how often station j was "ready and passed over" in the last k of the steps that stand: it was ready, judged before the step, and another
-- station was picked
unfoldable pub passed_over : List ℕ → ℕ → Steps → ℕ → ℕ
passed_over list j steps zero = 0
passed_over list j (begun b resets s) (suc k) = 0
passed_over list j (taken steps p s) (suc k) =
    (if ready list (top steps) j && not (eqb j p.station) then 1 else 0) + passed_over list j steps k

-- how many of the steps that stand come after station j's last pick: all of them where none picks it
unfoldable pub since_pick : ℕ → Steps → ℕ
since_pick j (begun b resets s) = 0
since_pick j (taken steps p s) = if eqb j p.station then 0 else suc (since_pick j steps)

-- none of the last k steps picks station j: a stretch from the start or from a pick of it, or a part of one
abbrev pub Unpicked : ℕ → Steps → ℕ → Type 0
Unpicked j steps zero = Unit {0}
Unpicked j (begun b resets s) (suc k) = Unit {0}
Unpicked j (taken steps p s) (suc k) = (j ≢ p.station) × Unpicked j steps k
