-- Bytes of the trace program's files and buffers. These are definitions.
use Rattle.std.specs.Prelude.{ℕ, ◌+◌, ◌*◌}
use Rattle.rules.specs.Names.{max_records, max_list, max_stations, max_steps, max_kept, kept_length}

-- so many bytes of a program or a picks file, and of a start file, are enough: one more than either may have
abbrev pub enough : ℕ
enough = 8 * max_records + 1

abbrev pub enough_starts : ℕ
enough_starts = 1 + max_stations + 1

-- bytes of the longest list, of the longest log, and of the kept states
abbrev pub list_bytes : ℕ
list_bytes = 16 * max_list

abbrev pub log_bytes : ℕ
log_bytes = 2 * (max_stations + max_steps)

abbrev pub kept_bytes : ℕ
kept_bytes = kept_length * max_kept
