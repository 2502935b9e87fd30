-- The code's reasons and what they stand for, seen as the rules'. These are definitions.
use Rattle.rules.specs.Why as rules
use Rattle.reason.specs.declared.Seen.{Seen}
use Rattle.reason.specs.declared.Reason.{Reason}
use Rattle.reason.specs.declared.Reason.TheVariants.{Ended, Waiting, WaitingTwo, Behind, MayBePicked}
use Rattle.reason.specs.declared.Why.{Why}

abbrev pub as_seen : Seen → rules.Seen
as_seen r = record { variable = r.variable; value = r.value }

abbrev pub as_reason : Reason → rules.Reason
as_reason Ended = rules.because_ended
as_reason (Waiting place v) = rules.because_waiting place (as_seen v)
as_reason (WaitingTwo place v w) = rules.because_waiting_two place (as_seen v) (as_seen w)
as_reason (Behind i) = rules.because_behind i
as_reason MayBePicked = rules.may_be_picked

abbrev pub as_why : Why → rules.Why
as_why r =
    record {
      number = r.number;
      ahead = r.ahead;
      place = r.place;
      count = r.count;
      variables = r.variables;
      values = r.values;
    }
