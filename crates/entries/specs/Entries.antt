-- The record that a list is laid out with at the end of its file. This is a definition.
use Rattle.rules.specs.Names.{STATION}
use Rattle.rules.specs.Records.{Record}
use Rattle.rules.specs.Build.{bare}

-- the end of the file is a STATION that opens nothing
abbrev pub end_of_file : Record
end_of_file = bare STATION 0
