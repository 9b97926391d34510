-- Document 01, 'The writer': the lent buffer and the cursor kept together.
use Rattle.std.specs.Prelude.{◌≡◌, List, ℕ, length}
use denote.Ref.{at_last}
use Rattle.error.specs.Answer.{Answer}
use Rattle.formatting.specs.Flags.{default_flags}
use Rattle.str_writer.specs.Value.{Value}
use Rattle.str_writer.specs.Truncate.{truncated, truncated_utf8}
use Rattle.str_writer.specs.Write.{Outcome, outcome, write}
use Rattle.str_writer_mut.specs.declared.StrWriterMut.{StrWriterMut}
use Rattle.str_writer_mut.specs.declared.Truncated.{Truncated}
use Rattle.str_writer_mut.specs.declared.WrittenTwice.{WrittenTwice}

-- 'The writer': the same lent buffer with the bytes of an outcome, and its cursor
abbrev pub after : StrWriterMut → Outcome → StrWriterMut
after w o = record { buffer = at_last w.buffer o.bytes; len = o.written.at }

-- 'The writer': a call on the writer w answers r and leaves the writer w', as an outcome says; the lent buffer keeps its length
abbrev pub Gives : Answer → StrWriterMut → StrWriterMut → Outcome → Type 0
Gives r w w' o = (r ≡ o.written.answer) × ((w' ≡ after w o) × (length w'.buffer.now ≡ length w.buffer.now))

-- 'A nested record': a write that gets the cursor and the bytes exactly as the call before left them
abbrev pub then_write : Outcome → Value → Outcome
then_write o v = write default_flags o.bytes o.written.at v

-- 'A nested record': two writes answer r and leave the bytes b, where the first has the outcome o and the second writes v
abbrev pub GivesTwice : WrittenTwice → List ℕ → Outcome → Value → Type 0
GivesTwice r b o v =
    (r ≡ record { at = (then_write o v).written.at; first = o.written.answer; second = (then_write o v).written.answer })
    × (b ≡ (then_write o v).bytes)

-- 'Beside the record': a truncation without an encoding, and one for UTF-8, of what the call before left
abbrev pub then_truncate : Outcome → ℕ → Outcome
then_truncate o n = outcome (truncated o.bytes o.written.at n) o.bytes

abbrev pub then_truncate_utf8 : Outcome → ℕ → Outcome
then_truncate_utf8 o n = outcome (truncated_utf8 o.bytes o.written.at n) o.bytes

-- 'Beside the record': a write of the outcome o, a truncation to n and one for UTF-8 to m answer r; the bytes b are those that the write leaves
abbrev pub GivesTruncated : Truncated → List ℕ → Outcome → ℕ → ℕ → Type 0
GivesTruncated r b o n m =
    let p : Outcome = then_truncate o n in
    let u : Outcome = then_truncate_utf8 p m in
    (r ≡ record { at = u.written.at; len = p.written.at; written = o.written.answer; plain = p.written.answer; utf8 = u.written.answer })
    × (b ≡ o.bytes)
