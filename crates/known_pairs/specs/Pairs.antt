-- Document 01, 'Known pairs (starred ones proved)': what is written, and the bytes that the paper names.
use Rattle.std.specs.Prelude.{true, ◌≡◌, List, [], ◌∷◌, ℕ, pos, negsuc, replicate}
use Rattle.formatting.specs.declared.flags.FormattingFlags.{FormattingFlags}
use Rattle.formatting.specs.declared.flags.NumberFormatting.{NumberFormatting}
use Rattle.formatting.specs.declared.flags.NumberFormatting.TheVariants.{Hexadecimal, Binary}
use Rattle.formatting.specs.Bytes.{bytes}
use Rattle.formatting.specs.Flags.{default_flags, with_num_fmt, with_alternate}
use Rattle.formatting.specs.Escape.{quoted}
use Rattle.utf8.specs.Utf8.{octets}
use Rattle.str_writer.specs.Value.{integer, debug}
use Rattle.calls.specs.declared.Kind.TheVariants.{Struct}
use Rattle.calls.specs.declared.Kind.TheVariants as kind
use Rattle.calls.specs.Call.{Call, field, opens, place, value, finish}
use Rattle.agreement.specs.Agreement.{defined_text, written}
use Rattle.pwrapper.specs.Number.{display_text, debug_text}

-- 'Known pairs': a text and the bytes that the paper gives for it
pub record Pair : Type 0 where
  pub text : List ℕ
  pub known : List ℕ

-- 'Known pairs': alternate form in a base
abbrev pub alternate : NumberFormatting → FormattingFlags
alternate n = with_alternate (with_num_fmt default_flags n) true

-- 'Known pairs': a list without entries
abbrev pub empty_list : List Call
empty_list = opens kind.List [] ∷ finish ∷ []

-- 'The call sheet': the input that the paper shows
abbrev pub sheet : List Call
sheet = opens Struct (bytes "P") ∷ place (field (bytes "x")) ∷ value (integer debug 8 (pos 7)) ∷ finish ∷ []

-- 'Known pairs': the starred ones
unfoldable pub pairs : List Pair
pairs =
    -- u8 255 `255`
    record { text = display_text (pos 255); known = bytes "255" }
    -- i8 -128 `-128`
    ∷ record { text = display_text (negsuc 127); known = bytes "-128" }
    -- i8 -1 hex alternate `0xFF`
    ∷ record { text = debug_text (alternate Hexadecimal) 8 (negsuc 0); known = bytes "0xFF" }
    -- 0 binary alternate `0b0`
    ∷ record { text = debug_text (alternate Binary) 8 (pos 0); known = bytes "0b0" }
    -- U+7F one byte
    ∷ record { text = octets 0x7F; known = 0x7F ∷ [] }
    -- U+80 C2 80
    ∷ record { text = octets 0x80; known = 0xC2 ∷ 0x80 ∷ [] }
    -- U+7FF DF BF
    ∷ record { text = octets 0x7FF; known = 0xDF ∷ 0xBF ∷ [] }
    -- U+800 E0 A0 80
    ∷ record { text = octets 0x800; known = 0xE0 ∷ 0xA0 ∷ 0x80 ∷ [] }
    -- U+FFFF EF BF BF
    ∷ record { text = octets 0xFFFF; known = 0xEF ∷ 0xBF ∷ 0xBF ∷ [] }
    -- U+10000 F0 90 80 80
    ∷ record { text = octets 0x10000; known = 0xF0 ∷ 0x90 ∷ 0x80 ∷ 0x80 ∷ [] }
    -- quoted `a'b` `"a\'b"`
    ∷ record { text = quoted (bytes "a'b"); known = bytes "\"a\\'b\"" }
    -- byte 1 quoted `"\x01"`
    ∷ record { text = quoted (1 ∷ []); known = bytes "\"\\x01\"" }
    -- empty list alternate `[]`
    ∷ record { text = defined_text (record { flags = with_alternate default_flags true }) empty_list; known = bytes "[]" }
    -- the sheet with n 3: the bytes are `Px7`
    ∷ record { text = (written (record { flags = default_flags }) sheet (replicate 3 0) 0).state.output.bytes; known = bytes "Px7" }
    ∷ []

-- 'Known pairs': each text of a list is its known bytes
abbrev pub Hold : List Pair → Type 0
Hold [] = Unit
Hold (p ∷ ps) = (p.text ≡ p.known) × Hold ps
