-- Document 01, 'A number': upper or lower hexadecimal digits.
use Rattle.std.specs.Prelude.{cond, ℕ, ◌+◌, ◌-◌, ltb}
use Rattle.formatting.specs.declared.flags.HexFormatting.{HexFormatting}
use Rattle.formatting.specs.declared.flags.HexFormatting.TheVariants.{Upper, Lower}

-- 'A number': the letter of the digit ten, `A` or `a`
abbrev pub letter_ten : HexFormatting → ℕ
letter_ten Upper = 65
letter_ten Lower = 97

-- 'A number': the ASCII byte of a digit below sixteen, `0` to `9` and then letters
abbrev pub hex_digit : HexFormatting → ℕ → ℕ
hex_digit h d = cond (ltb d 10) (48 + d) (letter_ten h - 10 + d)
