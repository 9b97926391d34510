-- The model's output that a WriterBackend and the lent bytes are.
use Rattle.std.specs.Prelude.{Bool, true, false, cond, List, ℕ, zero, suc, ◌+◌, ◌%◌, ltb, Option}
use Rattle.error.specs.declared.Error.{Error}
use Rattle.error.specs.declared.Error.TheVariants.{NotEnoughSpace, CountTooLarge}
use Rattle.error.specs.Answer.{Answer, done, number_of, fault_number, answer_number}
use Rattle.str_writer.specs.Write.{Written}
use Rattle.calls.specs.Model.{Mode, counting, writing, number_in, Output, PieceOutcome, to, most}
use Rattle.writer_backend.specs.declared.pieces.WriterBackend.{WriterBackend}

-- Document 01, 'Rust forms that cannot come along': a by-value mode with number; docs/DECISIONS.md, 'The formatter': remainder 0 is writing, 1 is counting; a third kind would be a further remainder
abbrev pub as_mode : ℕ → ℕ → Mode
as_mode zero n = writing n
as_mode (suc t) n = counting n

-- Document 01, 'Rust forms that cannot come along': the mode of a WriterBackend, by its number's remainder, so that every number is a mode
abbrev pub mode_of : WriterBackend → Mode
mode_of w = as_mode (w.mode % 2) w.number

-- Document 01, 'A nested record': whether a run is a counting one
abbrev pub is_counting : Mode → Bool
is_counting (counting n) = true
is_counting (writing p) = false

-- Document 01, 'A nested record': the same run with another total or cursor
abbrev pub with_number : Mode → ℕ → Mode
with_number (counting n) x = counting x
with_number (writing p) x = writing x

-- Document 01, 'The answer to a call', 6: a length added to the number of a run, which is kept where it would pass 2^64 - 1
abbrev pub added : Mode → List ℕ → ℕ → PieceOutcome
added m b n = cond (ltb most (number_in m + n)) (to m b (number_of CountTooLarge)) (to (with_number m (number_in m + n)) b done)

-- Document 01, 'Rust forms that cannot come along': the buffer lent beside it
abbrev pub output_of : WriterBackend → List ℕ → Output
output_of w b = record { mode = mode_of w; bytes = b }

-- Document 01, 'A nested record': what a piece answers, with the bytes as they are then
abbrev pub put_out : Answer → WriterBackend → List ℕ → PieceOutcome
put_out r w b = record { answer = answer_number r; output = output_of w b }

-- Document 01, 'A nested record': what a single write answers as a piece of a run; its cursor is the run's
abbrev pub moved_by : Mode → List ℕ → Written → PieceOutcome
moved_by m b w = to (with_number m w.at) b (answer_number w.answer)

-- Document 01, 'A nested record': a piece is refused with 1 or 6, so what a builder holds is nothing or one of these, whatever the number is
abbrev pub held_of : ℕ → ℕ
held_of zero = done
held_of (suc zero) = number_of NotEnoughSpace
held_of (suc (suc n)) = number_of CountTooLarge

-- docs/DECISIONS.md, 'The formatter': the number that a builder holds, 6 for a made-up one
abbrev pub held_number : Option Error → ℕ
held_number h = held_of (fault_number h)

-- Document 01, 'A nested record', field or entry: what a builder holds, with the output as it is then
abbrev pub held_out : Option Error → WriterBackend → List ℕ → PieceOutcome
held_out h w b = record { answer = held_number h; output = output_of w b }
