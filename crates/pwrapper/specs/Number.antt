-- Document 01, 'A number': the texts of an integer.
use Rattle.std.specs.Prelude.{ℕ, suc, ◌-◌, ◌^◌, Bool, true, false, cond, List, [], ◌∷◌, ◌++◌, ℤ, pos, negsuc}
use Rattle.formatting.specs.declared.flags.FormattingFlags.{FormattingFlags}
use Rattle.formatting.specs.declared.flags.NumberFormatting.{NumberFormatting}
use Rattle.formatting.specs.declared.flags.NumberFormatting.TheVariants.{Decimal, Hexadecimal, Binary}
use Rattle.formatting.specs.Hex.{hex_digit}
use Rattle.pwrapper.specs.Digits.{digit_text, dec_digit}

-- 'A number', decimal: shortest digits
abbrev pub decimal : ℕ → List ℕ
decimal n = digit_text dec_digit 10 n

-- 'A number': the display form is always decimal, minus below zero, never a prefix; negsuc n is -(n + 1)
abbrev pub display_text : ℤ → List ℕ
display_text (pos n) = decimal n
display_text (negsuc n) = 45 ∷ decimal (suc n)

-- 'A number': the two's complement at a width of k bits
abbrev pub twos_complement : ℕ → ℤ → ℕ
twos_complement k (pos n) = n
twos_complement k (negsuc n) = 2 ^ k - suc n

-- 'A number': alternate puts `0x` or `0b` before
abbrev pub prefix : Bool → ℕ → List ℕ
prefix true x = 48 ∷ x ∷ []
prefix false x = []

-- 'A number', hexadecimal: shortest digits, upper or lower
abbrev pub hex_text : FormattingFlags → ℕ → List ℕ
hex_text f n = prefix f.is_alternate 120 ++ digit_text (hex_digit f.hex_fmt) 16 n

-- 'A number', binary: shortest digits
abbrev pub bin_text : FormattingFlags → ℕ → List ℕ
bin_text f n = prefix f.is_alternate 98 ++ digit_text dec_digit 2 n

-- 'A number': the debug form follows the flags
abbrev pub debug_in : NumberFormatting → FormattingFlags → ℕ → ℤ → List ℕ
debug_in Decimal f k z = display_text z
debug_in Hexadecimal f k z = hex_text f (twos_complement k z)
debug_in Binary f k z = bin_text f (twos_complement k z)

-- 'A number': the debug form of an integer of k bits
abbrev pub debug_text : FormattingFlags → ℕ → ℤ → List ℕ
debug_text f k z = debug_in f.num_fmt f k z

-- 'A number': the debug form by the flags, of a sign with an absolute value, and of the two's complement
abbrev pub debug_parts : NumberFormatting → FormattingFlags → Bool → ℕ → ℕ → List ℕ
debug_parts Decimal f negative n bits = cond negative (45 ∷ []) [] ++ decimal n
debug_parts Hexadecimal f negative n bits = hex_text f bits
debug_parts Binary f negative n bits = bin_text f bits
