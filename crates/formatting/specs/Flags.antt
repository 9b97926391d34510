-- Document 01, 'A number': the flags and their setters.
use Rattle.std.specs.Prelude.{Bool, false}
use Rattle.formatting.specs.declared.flags.FormattingFlags.{FormattingFlags}
use Rattle.formatting.specs.declared.flags.NumberFormatting.{NumberFormatting}
use Rattle.formatting.specs.declared.flags.NumberFormatting.TheVariants.{Decimal, Hexadecimal}
use Rattle.formatting.specs.declared.flags.HexFormatting.{HexFormatting}
use Rattle.formatting.specs.declared.flags.HexFormatting.TheVariants.{Upper}

-- 'A number': `FormattingFlags::DEFAULT` is decimal, upper, not alternate
abbrev pub default_flags : FormattingFlags
default_flags = record { num_fmt = Decimal; hex_fmt = Upper; is_alternate = false }

-- 'A number': each setter takes the flags and hands back a changed copy; here decimal, hexadecimal or binary is set
abbrev pub with_num_fmt : FormattingFlags → NumberFormatting → FormattingFlags
with_num_fmt f n = record { num_fmt = n; hex_fmt = f.hex_fmt; is_alternate = f.is_alternate }

-- 'A number': hexadecimal with upper or lower digits
abbrev pub with_hex : FormattingFlags → HexFormatting → FormattingFlags
with_hex f h = record { num_fmt = Hexadecimal; hex_fmt = h; is_alternate = f.is_alternate }

-- 'A number': alternate or not
abbrev pub with_alternate : FormattingFlags → Bool → FormattingFlags
with_alternate f b = record { num_fmt = f.num_fmt; hex_fmt = f.hex_fmt; is_alternate = b }
