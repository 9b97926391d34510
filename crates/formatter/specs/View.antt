-- The state of the model that a formatter and the lent bytes are. Every formatter is one (docs/DECISIONS.md, 'The formatter').
use Rattle.std.specs.Prelude.{cond, List, ℕ, min, ltb, length, map, reverse, take, Result, Ok, Err}
use Rattle.error.specs.declared.Error.TheVariants.{BadCursor}
use Rattle.error.specs.Answer.{Answer, answer_number, done, number_of}
use Rattle.calls.specs.declared.Settings.{Settings}
use Rattle.calls.specs.Model.{Entry, State, Out, start, writing}
use Rattle.writer_backend.specs.Output.{output_of}
use Rattle.formatter.specs.Entries.{entry_of}
use Rattle.formatter.specs.declared.entries.Entry as code
use Rattle.formatter.specs.declared.head.Head.{Head}
use Rattle.formatter.specs.declared.formatter.Formatter.{Formatter}
use Rattle.formatter.specs.declared.formatter.PastEnd.{PastEnd}

-- Document 01, 'Rust forms that cannot come along': a stack of open entries, of which the innermost is the last, and the first in the model
abbrev pub stack_of : List code.Entry → List Entry
stack_of s = reverse (map entry_of s)

-- Document 01, 'Rust forms that cannot come along': at most 64 are open; docs/DECISIONS.md, 'The formatter': a depth above that reads as 64
abbrev pub depth_of : ℕ → ℕ
depth_of d = min d 64

-- docs/DECISIONS.md, 'The formatter': the entries that are open
abbrev pub open_of : Head → List code.Entry → List code.Entry
open_of h s = take (depth_of h.depth) s

-- Document 01, 'A nested record': the formatter that a head, its stack and the lent bytes are
abbrev pub view : Head → List code.Entry → List ℕ → State
view h s b = record { output = output_of h.writer b; flags = h.flags; margin = h.margin; stack = stack_of (open_of h s) }

-- Document 01, 'A nested record': what a call answers, with the formatter and the bytes as they then are
abbrev pub view_out : Answer → Head → List code.Entry → List ℕ → Out
view_out a h s b = record { answer = answer_number a; state = view h s b }

-- Document 01, 'Rust forms that cannot come along': the stack of open entries in the formatter
abbrev pub view_f : Formatter → List ℕ → State
view_f f b = view f.head f.stack b

-- Document 01, 'A nested record': what a call on a formatter answers, and the formatter then
abbrev pub view_f_out : Answer → Formatter → List ℕ → Out
view_f_out a f b = view_out a f.head f.stack b

-- Document 01, 'A nested record': what the making of a writing formatter answers, and the formatter: done, or 9 with the formatter given back
abbrev pub view_new : Result Formatter PastEnd → List ℕ → Out
view_new (Ok f) b = record { answer = done; state = view_f f b }
view_new (Err e) b = record { answer = number_of BadCursor; state = view_f e.formatter b }

-- Document 01, 'A nested record': a run starts fresh, cursor p over bytes of any content; 9 where the cursor exceeds the buffer's length
abbrev pub begun : List ℕ → ℕ → Settings → Out
begun b p S = record { answer = cond (ltb (length b) p) (number_of BadCursor) done; state = start (writing p) b S }
