-- The lights of the code, seen as those of the rules. These are definitions.
use Rattle.std.specs.Prelude.{ℕ, [], ◌∷◌}
use Rattle.rules.specs.Lights as rules
use Rattle.masks.specs.declared.Masks.{Masks}
use Rattle.lights.specs.declared.answer.Lights.{Lights}

abbrev pub as_lights : Lights → rules.Lights
as_lights r =
    record {
      number = r.number;
      ready = r.ready;
      in_turn = r.in_turn;
      waiting = r.waiting;
      ended = r.ended;
      rows = r.rows;
    }

-- what a refusal answers
abbrev pub refused_by : ℕ → rules.Lights
refused_by number =
    record { number = number; ready = 0; in_turn = 0; waiting = 0; ended = 0; rows = rules.dark ∷ rules.dark ∷ [] }

-- what masks answer
abbrev pub lit_by : Masks → rules.Lights
lit_by masks =
    record {
      number = 0;
      ready = masks.ready;
      in_turn = masks.in_turn;
      waiting = masks.waiting;
      ended = masks.ended;
      rows = masks.reads ∷ masks.writes ∷ [];
    }
