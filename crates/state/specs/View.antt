-- The states of the code, seen as those of the rules. This is a definition.
use Rattle.rules.specs.State as rules
use Rattle.state.specs.declared.State.{State}

abbrev pub as_state : State → rules.State
as_state s =
    record {
      vars = s.vars;
      positions = s.positions;
      priorities = s.priorities;
      counts = s.counts;
      n = s.n;
      b = s.b;
      m = s.m;
    }
