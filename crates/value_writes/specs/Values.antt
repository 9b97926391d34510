-- The value that a PVariant and the text lent beside it are, and what it answers.
use Rattle.std.specs.Prelude.{List, ℕ, zero, suc, pos}
use Rattle.formatting.specs.declared.flags.FormattingFlags.{FormattingFlags}
use Rattle.formatting.specs.declared.flags.NumberFormatting.TheVariants.{Decimal}
use Rattle.pwrapper.specs.Number.{debug_parts}
use Rattle.str_writer.specs.Value.{Form, display, debug, Value, integer, char, str, ascii, repeated, text_of, input_fault, cut_fault}
use Rattle.str_writer.specs.Write.{put as put_text}
use Rattle.error.specs.Answer.{fault_number}
use Rattle.calls.specs.Call.{hold}
use Rattle.calls.specs.Model.{Mode, counting, writing, Output, PieceOutcome, wrote, put_in, put, cut_in, beyond}
use Rattle.writer_backend.specs.declared.pieces.WriterBackend.{WriterBackend}
use Rattle.value_writes.specs.declared.Form as code
use Rattle.value_writes.specs.declared.Form.TheVariants.{Display, Debug}
use Rattle.value_writes.specs.declared.Width.{Width}
use Rattle.value_writes.specs.declared.Width.TheVariants.{W8, W16, W32, W64}
use Rattle.value_writes.specs.declared.Integer.{Integer}
use Rattle.value_writes.specs.declared.Integer.TheVariants.{Unsigned, Signed}
use Rattle.value_writes.specs.declared.Parts.{Parts}
use Rattle.value_writes.specs.declared.PVariant.{PVariant}
use Rattle.value_writes.specs.declared.PVariant.TheVariants.{Int, Char, Str, Ascii, Repeated}
use Rattle.writer_backend.specs.Output.{mode_of, output_of}

-- Document 01, 'A nested record': display or debug
abbrev pub form_of : code.Form → Form
form_of Display = display
form_of Debug = debug

-- Document 01, 'A number': 8, 16, 32, 64 bits
abbrev pub bits_of : Width → ℕ
bits_of W8 = 8
bits_of W16 = 16
bits_of W32 = 32
bits_of W64 = 64

-- Document 01, 'A number': an integer of a width, signed or not
abbrev pub integer_of : Form → Integer → Value
integer_of m (Unsigned w n) = integer m (bits_of w) (pos n)
integer_of m (Signed w x) = integer m (bits_of w) x

-- Document 01, 'A number': the display form is always decimal, the debug form follows the flags
abbrev pub heeded_by : Form → FormattingFlags → FormattingFlags
heeded_by display f = record { num_fmt = Decimal; hex_fmt = f.hex_fmt; is_alternate = f.is_alternate }
heeded_by debug f = f

-- Document 01, 'A number': the text of a sign with an absolute value, and of the two's complement
abbrev pub text_of_parts : Parts → List ℕ
text_of_parts p = debug_parts p.flags.num_fmt p.flags p.is_negative p.n p.bits

-- Document 01, 'A nested record': any number, character, string, ASCII or repeated-character write, display or debug
abbrev pub value_of : PVariant → List ℕ → Value
value_of (Int m x) s = integer_of (form_of m) x
value_of (Char m c) s = char (form_of m) c
value_of (Str m r) s = str (form_of m) s r
value_of (Ascii m r) s = ascii (form_of m) s r
value_of (Repeated c n) s = repeated c n

-- Document 01, 'The answer to a call': a value that meets a fault is refused with it, and nothing changes
abbrev pub unless_fault : ℕ → Output → PieceOutcome → PieceOutcome
unless_fault zero d p = p
unless_fault (suc a) d p = record { answer = suc a; output = d }

-- Document 01, 'The answer to a call', order: 2, 4 or 5, then 3 in writing
abbrev pub judged_in : Mode → Value → ℕ
judged_in m v = hold (fault_number (input_fault v)) (cut_in m (fault_number (cut_fault v)))

-- Document 01, 'A nested record': a counting run adds the length of a text, a writing run writes it as a single write does
abbrev pub emitted : Mode → List ℕ → List ℕ → PieceOutcome
emitted (counting n) b t = put_in (counting n) b t
emitted (writing c) b t = wrote (put_text b c t)

-- Document 01, 'The answer to a call', order, but for 9: 2, 4 or 5, then 3 in writing, then 6 or 1
abbrev pub value_judged : WriterBackend → List ℕ → FormattingFlags → Value → PieceOutcome
value_judged w b f v = unless_fault (judged_in (mode_of w) v) (output_of w b) (emitted (mode_of w) b (text_of f v))

-- Document 01, 'The answer to a call', order: 9, then 2, 4 or 5, then 3 in writing, then 6 or 1
unfoldable pub value_out : WriterBackend → List ℕ → FormattingFlags → Value → PieceOutcome
value_out w b f v =
    unless_fault (hold (beyond (mode_of w) b) (judged_in (mode_of w) v)) (output_of w b) (put (output_of w b) (text_of f v))
