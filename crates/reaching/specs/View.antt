-- The code's answer, seen as the rules' state and as the bytes of a text. These are definitions.
use Rattle.rules.specs.Lent.{Lent}
use Rattle.state.specs.View.{as_state}
use Rattle.text.specs.View.{text_of}
use Rattle.reaching.specs.Reaching as rules
use Rattle.reaching.specs.declared.Reached.{Reached}

abbrev pub as_reached : Reached → Lent → rules.Reached
as_reached r lent = record { state = as_state r.state; count = r.count; text = text_of r.text; lent = lent }
