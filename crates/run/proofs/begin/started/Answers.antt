-- `run::begin::started` meets its contract: the first test that refuses decides, and past them the resets are read back from the log.
-- Assumes nothing.
use Prim.Native.Nat.{◌*◌}
use mathlib.Core.Path.{◌≡◌, sym, ◌∙◌}
use mathlib.Core.Bool.{true}
use native.Mathlib.Omega.{arith}
use lib.Dec.{leb}
use lib.ListN.{length, get_or}
use borrow.Author.Tests.{eq-eqb, ne_eqb, le-leb, lt-ltb, le-ltb}
use Rattle.rules.specs.Words.{each, judge}
use Rattle.rules.specs.Names.{max_stations, max_kept, kept_length}
use Rattle.rules.specs.List.{stations, sound_list}
use Rattle.rules.specs.Start as rules
use Rattle.rules.specs.Undo.{restarted}
use Rattle.laws.proofs.Choice.{both}
use Rattle.laws.proofs.Sound.{few_stations}
use Rattle.starts.specs.Room.{room}
use Rattle.starts.proofs.Written.{resets_back}
use Rattle.run.proofs.begin.started.Goals as goal
use Rattle.run.proofs.begin.started.Goals.{Else-not-sound, Else-resets-n, Else-not-resets_within}

-- past the first test the list is sound
listed : (c : Else-not-sound) → sound_list c.args.list.now ≡ true
listed c = sym c.sound.ensures ∙ c.if-not-sound.false

-- past the second there are as many resets as stations
counted : (c : Else-resets-n) → let a = c.args in
    length a.resets.now ≡ stations a.list.now
counted c = c.if-resets-n.false ∙ c.stations-n.ensures

-- past the third none is above b
within : (c : Else-not-resets_within) → let a = c.args in
    each (λ j. leb (get_or a.resets.now j 0) a.b) (length a.resets.now) ≡ true
within c = sym c.resets_within.ensures ∙ c.if-not-resets_within.false

pub returns-then-not-sound : goal.returns-then-not-sound
unfolding rules.start judge
returns-then-not-sound c =
    rw (sym c.sound.ensures ∙ c.if-not-sound.true)

pub returns-then-resets-n : goal.returns-then-resets-n
unfolding rules.start judge
returns-then-resets-n c =
    let a = c.args in
    rw (
      listed (goal.at.returns-then-resets-n c).Else-not-sound,
      ne_eqb (length a.resets.now) (stations a.list.now) (λ e. c.if-resets-n.true (e ∙ sym c.stations-n.ensures)),
    )

pub returns-then-not-resets_within : goal.returns-then-not-resets_within
unfolding rules.start judge
returns-then-not-resets_within c =
    rw (
      listed (goal.at.returns-then-not-resets_within c).Else-not-sound,
      eq-eqb _ _ (counted (goal.at.returns-then-not-resets_within c).Else-resets-n),
      sym c.resets_within.ensures ∙ c.if-not-resets_within.true,
    )

pub overflow_mul-n : goal.overflow_mul-n
overflow_mul-n c =
    omega (arith, c.stations-n.ensures, few_stations _ (listed (goal.at.overflow_mul-n c).Else-not-sound))

pub returns-then-log-n : goal.returns-then-log-n
unfolding rules.start judge
returns-then-log-n c =
    rw (
      listed (goal.at.returns-then-log-n c).Else-not-sound,
      eq-eqb _ _ (counted (goal.at.returns-then-log-n c).Else-resets-n),
      within (goal.at.returns-then-log-n c).Else-not-resets_within,
      ← c.stations-n.ensures,
      lt-ltb _ _ c.if-log-n.true,
    )

pub returns-then-kept : goal.returns-then-kept
unfolding rules.start judge
returns-then-kept c =
    rw (
      listed (goal.at.returns-then-kept c).Else-not-sound,
      eq-eqb _ _ (counted (goal.at.returns-then-kept c).Else-resets-n),
      within (goal.at.returns-then-kept c).Else-not-resets_within,
      ← c.stations-n.ensures,
      le-ltb _ _ c.if-log-n.false,
      lt-ltb _ (kept_length * max_kept) c.if-kept.true,
    )

pub begun-requires : goal.begun-requires
begun-requires c = listed (goal.at.begun-requires c).Else-not-sound

-- the start records have their room
pub returns : goal.returns
unfolding rules.start judge restarted
returns c =
    let a = c.args in
    let sound = listed (goal.at.returns c).Else-not-sound in
    let all = counted (goal.at.returns c).Else-resets-n in
    let there : room (length a.resets.now) a.log.now ≡ true =
    rw all
    (both (le-leb (stations a.list.now) max_stations (few_stations _ sound))
    (le-leb (2 * stations a.list.now) (length a.log.now) (rw c.stations-n.ensures at c.if-log-n.false))) in
    let log = rw there at c.write.ensures.1 in
    let begun = rw (log, ← all, resets_back a.log.now a.resets.now) at c.begun.ensures in
    rw (
      sound,
      eq-eqb _ _ all,
      within (goal.at.returns c).Else-not-resets_within,
      ← c.stations-n.ensures,
      le-ltb _ _ c.if-log-n.false,
      le-ltb _ (kept_length * max_kept) c.if-kept.false,
      log,
      begun,
    )
