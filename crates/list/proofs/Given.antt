-- A list is sound at the number of stations and the first later place that the code counts. Assumes nothing.
use mathlib.Core.Path.{◌≡◌, ap, ◌∙◌}
use mathlib.Core.Bool.{◌&&◌}
use mathlib.Core.List.{List}
use Prim.Native.Nat.{ℕ, ◌+◌, ◌-◌, ◌%◌}
use native.Mathlib.Omega.{arith}
use lib.Dec.{eqb, leb}
use lib.ListN.{length}
use Rattle.rules.specs.Words.{each}
use Rattle.rules.specs.Names.{max_list, max_stations}
use Rattle.rules.specs.Records.{list_count}
use Rattle.rules.specs.List.{stations, initials, later_after, later, init_right, initial_right, later_right, sound_list}

-- the place that the code counts, from the number that it counted
pub later_counted : (list : List ℕ) {n first : ℕ} → n ≡ stations list → first ≡ later_after list n → first ≡ later list
later_counted list counted found = found ∙ ap (later_after list) counted

pub sound_given :
    (list : List ℕ) {n first : ℕ} → n ≡ stations list → first ≡ later_after list n →
    sound_list list
    ≡ (eqb (length list % 16) 0 && leb (list_count list) max_list && leb 1 n && leb n max_stations
    && each (init_right list first) n
    && each (λ i. initial_right list (n + i)) (first - n)
    && each (λ i. later_right list n first (first + i)) (list_count list - first))
unfolding sound_list
sound_given list counted found =
    let between : later list - stations list ≡ initials list = omega arith in
    rw (counted, later_counted list counted found, between)
