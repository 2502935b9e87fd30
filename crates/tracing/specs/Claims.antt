-- What a trace prints, piece by piece and all told, and how much of its files decides it. These are claims, and proofs/Together.antt and
-- proofs/Enough.antt show them.
use Rattle.std.specs.Prelude.{◌≡◌, List, ◌++◌, ℕ, ◌+◌, ◌/◌, ◌≤◌, length, take, replicate}
use Rattle.rules.specs.Trace.{trace}
use Rattle.sizes.specs.Sizes.{enough, enough_starts, list_bytes, log_bytes, kept_bytes}
use Rattle.tracing.specs.Tracing.{Tracing, piece, still, Opened, opened, printed}
use Rattle.rules.specs.Lent.{Lent}

-- a piece is what comes first of what is still to be printed; the rest is still to be printed after it
abbrev pub PieceFirst : Type 0
PieceFirst =
    (list picks : List ℕ) (lent : Lent) (t : Tracing)
    → let p = piece list picks lent t in still list picks lent t ≡ p.text ++ still list picks p.lent p.tracing

-- where the trace of two files begins, in buffers that are never short
abbrev pub fresh_opened : List ℕ → List ℕ → Opened
fresh_opened program starts = opened program starts (replicate list_bytes 0) (record { log = replicate log_bytes 0; kept = replicate kept_bytes 0 })

-- the pieces put together, with two turns more than there are picks, are the rules' trace
abbrev pub Traced : Type 0
Traced =
    (program starts picks : List ℕ) (turns : ℕ) → 2 + length picks / 2 ≤ turns
    → let o = fresh_opened program starts in printed turns o.list picks o.lent o.tracing ≡ trace program starts picks

-- so many bytes of a program or a picks file, and of a start file, are enough
abbrev pub Enough : Type 0
Enough =
    (program starts picks : List ℕ)
    → trace (take enough program) (take enough_starts starts) (take enough picks) ≡ trace program starts picks
