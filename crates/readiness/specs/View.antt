-- The code's readiness and what it tells, seen as the rules' readiness and answer. These are definitions.
use Rattle.rules.specs.Words.{Answer}
use Rattle.rules.specs.Ready as rules
use Rattle.readiness.specs.declared.Readiness.{Readiness}
use Rattle.readiness.specs.declared.Readiness.TheVariants.{Ready, Ended, Waiting}
use Rattle.readiness.specs.declared.Told.{Told}

abbrev pub as_readiness : Readiness → rules.Readiness
as_readiness Ready = rules.is_ready
as_readiness Ended = rules.has_ended
as_readiness (Waiting place) = rules.waits_at place

abbrev pub as_told : Told → Answer
as_told r = record { number = r.number; place = r.place }
