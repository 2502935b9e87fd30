-- `whole::judged` meets its contract. Assumes nothing.
use mathlib.Core.Path.{sym, ◌∙◌}
use Rattle.rules.specs.Words.{judge}
use Rattle.whole.proofs.judged.Goals as goal

pub returns-then-not-sound : goal.returns-then-not-sound
unfolding judge
returns-then-not-sound c = rw (sym c.sound.ensures ∙ c.if-not-sound.true)

pub returns-then-not-sound-2 : goal.returns-then-not-sound-2
unfolding judge
returns-then-not-sound-2 c = rw (sym c.sound.ensures ∙ c.if-not-sound.false, sym c.sound-2.ensures ∙ c.if-not-sound-2.true)

pub returns : goal.returns
unfolding judge
returns c = rw (sym c.sound.ensures ∙ c.if-not-sound.false, sym c.sound-2.ensures ∙ c.if-not-sound-2.false)
