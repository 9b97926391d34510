-- Document 01, 'A nested record, and its count': the values, any number, character, string, ASCII or repeated-character write, display or debug.
use Rattle.std.specs.Prelude.{cond, ◌&&◌, List, ℕ, ◌%◌, ℤ, length, replicate, ⊤, Option, Some, None, Result, Ok, Err}
use Rattle.error.specs.declared.Error.{Error}
use Rattle.error.specs.declared.Error.TheVariants.{NotAscii, NotOnCharBoundary, NotUtf8, NotAChar}
use Rattle.formatting.specs.declared.flags.FormattingFlags.{FormattingFlags}
use Rattle.formatting.specs.Escape.{quoted}
use Rattle.utf8.specs.Utf8.{well_formed, is_scalar}
use Rattle.utils.specs.declared.Range.{Range}
use Rattle.utils.specs.Text.{saturated, part, is_boundary}
use Rattle.ascii_str.specs.declared.NotAsciiError.{NotAsciiError}
use Rattle.ascii_str.specs.Ascii.{ascii_from}
use Rattle.char_encoding.specs.Char.{char_display, char_debug}
use Rattle.pwrapper.specs.Number.{display_text, debug_text}

-- 'A nested record': display or debug
pub data Form : Type 0 where
  display debug : Form

-- 'A nested record': a value. An integer has its width in bits; a string has its range
pub data Value : Type 0 where
  integer : Form → ℕ → ℤ → Value
  char : Form → ℕ → Value
  str : Form → List ℕ → Range → Value
  ascii : Form → List ℕ → Range → Value
  repeated : ℕ → ℕ → Value

-- 'A string': the range of a whole string
abbrev pub whole : List ℕ → Range
whole s = record { start = 0; end = length s }

-- 'A string': a text bare or quoted
abbrev pub string_text : Form → List ℕ → List ℕ
string_text display t = t
string_text debug t = quoted t

-- 'A number', 'A character', 'A string', 'The writer': the text of a value, the debug form of a number by the flags in force; `write_ascii_repeated` drops the top bit
unfoldable pub text_of : FormattingFlags → Value → List ℕ
text_of f (integer display k z) = display_text z
text_of f (integer debug k z) = debug_text f k z
text_of f (char display c) = char_display c
text_of f (char debug c) = char_debug c
text_of f (str m s r) = string_text m (part s r)
text_of f (ascii m s r) = string_text m (part s r)
text_of f (repeated c n) = replicate n (c % 128)

-- 'The answer to a call', 2: ASCII text holds a byte above 127
abbrev pub ascii_fault : Result ⊤ NotAsciiError → Option Error
ascii_fault (Ok u) = None
ascii_fault (Err e) = Some NotAscii

-- 'The answer to a call', 4: a text that is not UTF-8
abbrev pub text_fault : List ℕ → Option Error
text_fault s = cond (well_formed s) None (Some NotUtf8)

-- 'The answer to a call', 2, 4 and 5: what the input of a value meets
unfoldable pub input_fault : Value → Option Error
input_fault (integer m k z) = None
input_fault (char m c) = cond (is_scalar c) None (Some NotAChar)
input_fault (str m s r) = text_fault s
input_fault (ascii m s r) = ascii_fault (ascii_from 0 s)
input_fault (repeated c n) = None

-- 'The answer to a call', 3: a clamped range cuts a character
unfoldable pub cut_fault : Value → Option Error
cut_fault (integer m k z) = None
cut_fault (char m c) = None
cut_fault (str m s r) = cond (is_boundary s (saturated s r).start && is_boundary s (saturated s r).end) None (Some NotOnCharBoundary)
cut_fault (ascii m s r) = None
cut_fault (repeated c n) = None
