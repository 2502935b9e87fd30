-- Readiness by the place of a list where a station stands; and the same by a list as a run reads it, narrowed. These are definitions.
use Rattle.std.specs.Prelude.{ℕ, Bool, List}
use Rattle.rules.specs.Records.{list_record_at}
use Rattle.rules.specs.Ready.{Readiness, readiness_at, says_ready}
use Rattle.laws.specs.Narrow.{narrow}

abbrev pub readiness_by : List ℕ → List ℕ → ℕ → Readiness
readiness_by list vars place = readiness_at vars (list_record_at list place) place

abbrev pub readiness_from : List ℕ → List ℕ → ℕ → Readiness
readiness_from list = readiness_by (narrow list)

abbrev pub ready_from : List ℕ → List ℕ → ℕ → Bool
ready_from list vars place = says_ready (readiness_from list vars place)
