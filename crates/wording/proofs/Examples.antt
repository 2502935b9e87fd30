-- A line of each kind, the longest among them, computed from the definition. Assumes nothing.
use mathlib.Core.Path.{◌≡◌, refl}
use lib.ListN.{length}
use Rattle.rules.specs.Names.{COMPONENT, ENDED}
use Rattle.rules.specs.Trace.{decimal_digits}
use Rattle.rules.specs.Why.{Seen, bare, said, because_waiting, because_waiting_two, because_behind}
use Rattle.wording.specs.Wording.{ascii, shown, waits_for_one, waits_for_two, said_of, why_line}

may_be_picked : why_line 3 (bare 0) ≡ ascii "station 3 may be picked\n"
unfolding ascii said_of why_line decimal_digits
may_be_picked = refl

behind : why_line 3 (said (because_behind 1)) ≡ ascii "station 3 is behind station 1\n"
unfolding ascii said_of why_line decimal_digits
behind = refl

waits_for_a_variable : why_line 3 (said (because_waiting 17 (record { variable = 0; value = 0 })))
    ≡ ascii "station 3 waits at record 17: v0 is 0\n"
unfolding ascii shown waits_for_one said_of why_line decimal_digits
waits_for_a_variable = refl

waits_for_both : why_line 3 (said (because_waiting_two 17 (record { variable = 0; value = 0 }) (record { variable = 5; value = 4294967295 })))
    ≡ ascii "station 3 waits at record 17: v0 is 0, v5 is 4294967295\n"
unfolding ascii shown waits_for_one waits_for_two said_of why_line decimal_digits
waits_for_both = refl

ended : why_line 3 (bare ENDED) ≡ ascii "station 3 has ended\n"
unfolding ascii said_of why_line decimal_digits
ended = refl

refused : why_line 3 (bare COMPONENT) ≡ ascii "station 3 is refused with 10\n"
unfolding ascii said_of why_line decimal_digits
refused = refl

longest : Seen
longest = record { variable = 255; value = 4294967295 }

longest_line : length (why_line 255 (said (because_waiting_two 65535 longest longest))) ≡ 74
unfolding longest ascii shown waits_for_one waits_for_two said_of why_line decimal_digits
longest_line = refl
