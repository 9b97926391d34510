-- Flags as a number: by four the number format, by two the case of hexadecimal digits, its last bit alternate or not. Document 01 has no such form: docs/DECISIONS.md, 'The formatter', says why there is one.
use Rattle.std.specs.Prelude.{Bool, cond, Result, Ok, Err, ℕ, zero, suc, ◌/◌, ◌%◌, eqb, ltb}
use Rattle.formatting.specs.declared.flags.FormattingFlags.{FormattingFlags}
use Rattle.formatting.specs.declared.flags.NumberFormatting.{NumberFormatting}
use Rattle.formatting.specs.declared.flags.NumberFormatting.TheVariants.{Decimal, Hexadecimal, Binary}
use Rattle.formatting.specs.declared.flags.HexFormatting.{HexFormatting}
use Rattle.formatting.specs.declared.flags.HexFormatting.TheVariants.{Upper, Lower}
use Rattle.formatting.specs.declared.flags_as_number.NotFlags.{NotFlags}

-- the number format that a number is
abbrev pub num_fmt_of : ℕ → NumberFormatting
num_fmt_of zero = Decimal
num_fmt_of (suc zero) = Hexadecimal
num_fmt_of (suc (suc n)) = Binary

-- the case that a number is
abbrev pub hex_fmt_of : ℕ → HexFormatting
hex_fmt_of zero = Upper
hex_fmt_of (suc n) = Lower

-- the numbers that are flags: three number formats, two cases, alternate or not
abbrev pub are_flags : ℕ → Bool
are_flags n = ltb n 12

-- the flags that a number is; those of the numbers below 12 are all that there are
abbrev pub flags_of : ℕ → FormattingFlags
flags_of n = record { num_fmt = num_fmt_of (n / 4); hex_fmt = hex_fmt_of (n / 2 % 2); is_alternate = eqb (n % 2) 1 }

-- the flags that a number is, refused where it is none
abbrev pub checked_flags : ℕ → Result FormattingFlags NotFlags
checked_flags n = cond (are_flags n) (Ok (flags_of n)) (Err (record { 0 = n }))
