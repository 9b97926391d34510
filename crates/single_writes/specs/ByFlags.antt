-- A call whose flags are a number, as a caller in another language passes them (docs/DECISIONS.md, 'For senders, and the comparison'), and a counter with a total.
use Rattle.std.specs.Prelude.{cond, List, ℕ}
use Rattle.error.specs.declared.Error.TheVariants.{WrongCall}
use Rattle.error.specs.Answer.{number_of}
use Rattle.formatting.specs.declared.flags.FormattingFlags.{FormattingFlags}
use Rattle.formatting.specs.FlagsAsNumber.{are_flags, flags_of}
use Rattle.calls.specs.Call.{hold}
use Rattle.calls.specs.Model.{Mode, PieceOutcome, to, beyond}
use Rattle.writer_backend.specs.declared.pieces.WriterBackend.{WriterBackend}

-- 'For senders': 12 and above are no flags: what a call does by the flags that a number is, or r where it is none
abbrev pub by_flags : {A : Type 0} → ℕ → A → (FormattingFlags → A) → A
by_flags n r o = cond (are_flags n) (o (flags_of n)) r

-- Document 01, 'The answer to a call', order: 9, then 8; nothing changes
abbrev pub wrong_flags : Mode → List ℕ → PieceOutcome
wrong_flags m b = to m b (hold (beyond m b) (number_of WrongCall))

-- Document 01, 'A nested record': counting from a total
abbrev pub from : ℕ → WriterBackend
from n = record { mode = 1; number = n }
