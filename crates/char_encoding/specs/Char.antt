-- Document 01, 'A character'.
use Rattle.std.specs.Prelude.{cond, List, [], ◌∷◌, ◌++◌, ℕ, ◌-◌, ltb, length, replicate, Result, Ok, Err}
use Rattle.error.specs.declared.Error.{Error}
use Rattle.error.specs.declared.Error.TheVariants.{NotAChar}
use Rattle.formatting.specs.Escape.{escape_of, escape_text}
use Rattle.utf8.specs.Utf8.{is_scalar, octets}
use Rattle.char_encoding.specs.declared.Utf8Char.{Utf8Char}
use Rattle.char_encoding.specs.declared.FmtChar.{FmtChar}

-- 'The answer to a call': 5 for a code in D800 to DFFF (hexadecimal) or above 10FFFF
abbrev pub unless_no_char : {A : Type 0} → ℕ → A → Result A Error
unless_no_char c a = cond (is_scalar c) (Ok a) (Err NotAChar)

-- 'A character': the display form is the octets; what is no character has no text
unfoldable pub char_display : ℕ → List ℕ
char_display c = cond (is_scalar c) (octets c) []

-- 'A character': what stands between the marks; codes below 128 have the escapes of bytes, the others stay
unfoldable pub char_inner : ℕ → List ℕ
char_inner c = cond (ltb c 128) (escape_text (escape_of c) c) (char_display c)

-- 'A character': quoted, between `'` marks
unfoldable pub char_debug : ℕ → List ℕ
char_debug c = cond (is_scalar c) (39 ∷ char_inner c ++ (39 ∷ [])) []

-- 'A character': a text in an array of n bytes, unused bytes zero
abbrev pub padded : ℕ → List ℕ → List ℕ
padded n t = t ++ replicate (n - length t) 0

-- 'A character': a text in four bytes and its length
abbrev pub utf8_char : ℕ → List ℕ → Result Utf8Char Error
utf8_char c t = unless_no_char c (record { len = length t; bytes = padded 4 t })

-- 'A character': a display or quoted form in six bytes
abbrev pub fmt_char : ℕ → List ℕ → Result FmtChar Error
fmt_char c t = unless_no_char c (record { len = length t; encoded = padded 6 t })

-- 'A character': the length of a display or quoted form
abbrev pub char_len : ℕ → List ℕ → Result ℕ Error
char_len c t = unless_no_char c (length t)
