-- The steps taken are FAIR's, and counted; and no other outcome of a pick is. These are claims, and proofs/Relation.antt shows each.
use Rattle.std.specs.Prelude.{◌≡◌, Bool, List, ℕ, ◌<◌, ℤ}
use Rattle.rules.specs.Records.{Pick}
use Rattle.rules.specs.State.{State, priority, count}
use Rattle.rules.specs.Lent.{Lent}
use Rattle.rules.specs.Ready.{ready}
use Rattle.rules.specs.Calls.{Seven}
use Rattle.fair.specs.Fair.{Sch, Update, Counted}
use Rattle.fair.specs.Sound.{Held}

-- every step taken is one of FAIR's: its station satisfies SCH, and the numbers before and after satisfy UPDATE
abbrev pub StepFair : Seven → Type 0
StepFair bench =
    (list : List ℕ) (s : State) (lent : Lent) (p : Pick) → Held s → (bench.step list s lent p).number ≡ 0
    → Sch s.n (ready list s) (priority s) p.station
    × Update s.n (ready list s) s.b (priority s) (priority (bench.step list s lent p).state) p.station p.reset

-- and counts those passed over
abbrev pub StepCounts : Seven → Type 0
StepCounts bench =
    (list : List ℕ) (s : State) (lent : Lent) (p : Pick) → Held s → (bench.step list s lent p).number ≡ 0
    → Counted s.n (ready list s) (count s) (count (bench.step list s lent p).state) p.station

-- UPDATE leaves one number to each station
abbrev pub UpdateOnly : Type 0
UpdateOnly =
    (n : ℕ) (ready : ℕ → Bool) (b : ℕ) (z x y : ℕ → ℤ) (i reset : ℕ) → Update n ready b z x i reset → Update n ready b z y i reset
    → (j : ℕ) → j < n → x j ≡ y j

-- and `Counted` one count
abbrev pub CountedOnly : Type 0
CountedOnly =
    (n : ℕ) (ready : ℕ → Bool) (c d e : ℕ → ℕ) (i : ℕ) → Counted n ready c d i → Counted n ready c e i → (j : ℕ) → j < n → d j ≡ e j
