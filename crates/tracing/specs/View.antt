-- The code's tracers, seen as the rules' states and as the bytes that they print. These are definitions.
use Rattle.std.specs.Prelude.{ℕ, List}
use Rattle.state.specs.View.{as_state}
use Rattle.text.specs.View.{text_of}
use Rattle.tracing.specs.Tracing.{Tracing, Piece, Opened}
use Rattle.tracing.specs.declared.Tracer.{Tracer}
use Rattle.tracing.specs.declared.Printed.{Printed}
use Rattle.rules.specs.Lent.{Lent}

abbrev pub as_tracing : Tracer → Tracing
as_tracing t = record { state = as_state t.state; count = t.count; next = t.next }

abbrev pub as_piece : Printed → Lent → Piece
as_piece r lent = record { text = text_of r.text; tracing = as_tracing r.tracer; lent = lent }

abbrev pub as_opened : Tracer → List ℕ → Lent → Opened
as_opened r list lent = record { tracing = as_tracing r; list = list; lent = lent }
