-- The documents' names for their numbers: kinds of records, refusals, limits. These are definitions.
use Rattle.std.specs.Prelude.{ℕ}

-- kinds of the written sequence
abbrev pub STATION : ℕ
STATION = 1

abbrev pub SKIP : ℕ
SKIP = 2

abbrev pub SET : ℕ
SET = 3

abbrev pub IF : ℕ
IF = 4

abbrev pub ELSE : ℕ
ELSE = 5

abbrev pub FI : ℕ
FI = 6

abbrev pub WHILE : ℕ
WHILE = 7

abbrev pub OD : ℕ
OD = 8

abbrev pub AWAIT : ℕ
AWAIT = 9

abbrev pub END : ℕ
END = 10

-- kinds of the built-in list alone
abbrev pub INIT : ℕ
INIT = 16

abbrev pub STOP : ℕ
STOP = 17

-- refusals
abbrev pub LENGTH : ℕ
LENGTH = 1

abbrev pub FIELD : ℕ
FIELD = 2

abbrev pub COUNT : ℕ
COUNT = 3

abbrev pub SHAPE : ℕ
SHAPE = 4

abbrev pub DEPTH : ℕ
DEPTH = 5

abbrev pub ROOM : ℕ
ROOM = 6

abbrev pub LIST : ℕ
LIST = 7

abbrev pub STATE : ℕ
STATE = 8

abbrev pub FULL : ℕ
FULL = 9

abbrev pub COMPONENT : ℕ
COMPONENT = 10

abbrev pub NOT_READY : ℕ
NOT_READY = 11

abbrev pub TURN : ℕ
TURN = 12

abbrev pub RESET : ℕ
RESET = 13

abbrev pub EMPTY : ℕ
EMPTY = 14

abbrev pub LOG : ℕ
LOG = 15

abbrev pub ENDED : ℕ
ENDED = 16

-- limits
-- records of a written sequence, at most
abbrev pub max_records : ℕ
max_records = 1024

-- stations, at most, and places for them in a run state
abbrev pub max_stations : ℕ
max_stations = 8

-- IF, WHILE and AWAIT open at once, at most
abbrev pub max_depth : ℕ
max_depth = 16

-- variables, numbered from 0
abbrev pub variables : ℕ
variables = 32

-- records of a built-in list, at most
abbrev pub max_list : ℕ
max_list = 1032

-- standing steps, at most
abbrev pub max_steps : ℕ
max_steps = 4096

-- steps from one kept state to the next
abbrev pub kept_every : ℕ
kept_every = 64

-- kept states: the last after 64 times 64 steps
abbrev pub max_kept : ℕ
max_kept = 64

-- bytes of a kept state
abbrev pub kept_length : ℕ
kept_length = 184

-- the station byte of the list's initial part
abbrev pub no_station : ℕ
no_station = 255

-- the station byte of a pick that is an undo, with reset 0, in the trace
abbrev pub undo_station : ℕ
undo_station = 255
