-- On a sound list, what the code works out of a station's next step is what the rules say that it touches. Assumes nothing.
use mathlib.Core.Path.{◌≡◌}
use mathlib.Core.Bool.{Bool, true}
use mathlib.Core.List.{List}
use Prim.Native.Nat.{ℕ, ◌≤◌}
use borrow.Author.Tests.{le-leb}
use Rattle.rules.specs.Names.{max_list}
use Rattle.rules.specs.Records.{Record, list_count}
use Rattle.rules.specs.List.{sound_list}
use Rattle.rules.specs.State.{State}
use Rattle.rules.specs.Ready.{next_step, ready}
use Rattle.rules.specs.Lights.{body, touches}
use Rattle.laws.proofs.Sound.{short}
use Rattle.touches.specs.Touched.{body_within, touched}

-- a list that is not too long is searched to its end
pub body_whole : (list : List ℕ) (t1 : ℕ) → list_count list ≤ max_list → body_within list t1 ≡ body list t1
unfolding body_within body
body_whole list t1 fits = rw (le-leb (list_count list) max_list fits)

pub touches_so : (does : Record → Bool) (list : List ℕ) (s : State) (j : ℕ) → sound_list list ≡ true
    → touched does list (next_step list s j) (ready list s j) ≡ touches does list s j
unfolding touched touches
touches_so does list s j sound = rw (body_whole list (next_step list s j).t1 (short list sound))
