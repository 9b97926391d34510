-- Document 01, 'The call sheet': `begin,n,p,dec|hex|bin,upper|lower,plain|alt`.
use Rattle.std.specs.Prelude.{Bool, true, false, cond, List, [], ◌∷◌, ℕ, ◌-◌, ◌^◌, ltb, length, Option, Some, None, Result, Ok, Err}
use Rattle.std.specs.Str.{bytes_eq}
use Rattle.formatting.specs.declared.flags.NumberFormatting.{NumberFormatting}
use Rattle.formatting.specs.declared.flags.NumberFormatting.TheVariants.{Decimal, Hexadecimal, Binary}
use Rattle.formatting.specs.declared.flags.HexFormatting.TheVariants.{Upper, Lower}
use Rattle.formatting.specs.declared.flags.HexFormatting.{HexFormatting}
use Rattle.formatting.specs.declared.flags.FormattingFlags.{FormattingFlags}
use Rattle.lines.specs.Lines.{max_line}
use Rattle.formatting.specs.Bytes.{bytes}
use Rattle.fields.specs.Fields.{fields}
use Rattle.fields.specs.Decimal.{decimal_of, up_to}
use Rattle.sheet_line.specs.declared.begin.Begin.{Begin}
use Rattle.sheet_line.specs.declared.begin.BadBegin.{BadBegin}
use Rattle.sheet_line.specs.declared.begin.BadBegin.TheVariants.{Form, Cursor}

-- 'The call sheet': `dec|hex|bin`
unfoldable pub format_of : List ℕ → Option NumberFormatting
format_of w =
    cond (bytes_eq w (bytes "dec")) (Some Decimal)
    (cond (bytes_eq w (bytes "hex")) (Some Hexadecimal)
    (cond (bytes_eq w (bytes "bin")) (Some Binary)
    None))

-- 'The call sheet': `upper|lower`
unfoldable pub digits_of : List ℕ → Option HexFormatting
digits_of w = cond (bytes_eq w (bytes "upper")) (Some Upper) (cond (bytes_eq w (bytes "lower")) (Some Lower) None)

-- 'The call sheet': `plain|alt`: whether numbers are alternate
unfoldable pub layout_of : List ℕ → Option Bool
layout_of w = cond (bytes_eq w (bytes "plain")) (Some false) (cond (bytes_eq w (bytes "alt")) (Some true) None)

-- 'The call sheet': the flags that the three are
abbrev pub flags_of : Option NumberFormatting → Option HexFormatting → Option Bool → Option FormattingFlags
flags_of None d a = None
flags_of (Some b) None a = None
flags_of (Some b) (Some d) None = None
flags_of (Some b) (Some d) (Some a) = Some (record { num_fmt = b; hex_fmt = d; is_alternate = a })

-- 'The call sheet': the last three fields of `begin`
abbrev pub flag_fields : List (List ℕ) → Option FormattingFlags
flag_fields [] = None
flag_fields (b ∷ []) = None
flag_fields (b ∷ d ∷ []) = None
flag_fields (b ∷ d ∷ a ∷ []) = flags_of (format_of b) (digits_of d) (layout_of a)
flag_fields (b ∷ d ∷ a ∷ x ∷ fs) = None

-- 'The call sheet': a size, a cursor and flags
abbrev pub begun : Option ℕ → Option ℕ → Option FormattingFlags → Option Begin
begun None p f = None
begun (Some n) None f = None
begun (Some n) (Some p) None = None
begun (Some n) (Some p) (Some f) = Some (record { size = n; cursor = p; flags = f })

-- 'The call sheet': n at most 4,096
abbrev pub max_size : ℕ
max_size = 4096

-- 'The call sheet': p no number above 2^64 - 1
abbrev pub size_fields : List (List ℕ) → Option Begin
size_fields [] = None
size_fields (n ∷ []) = None
size_fields (n ∷ p ∷ fs) = begun (up_to max_size (decimal_of n)) (up_to (2 ^ 64 - 1) (decimal_of p)) (flag_fields fs)

-- 'The call sheet': the fields of line 1
abbrev pub begin_fields : List (List ℕ) → Option Begin
begin_fields [] = None
begin_fields (w ∷ fs) = cond (bytes_eq w (bytes "begin")) (size_fields fs) None

-- 'The call sheet': what line 1 says, wherever its cursor is; a line above 4,096 bytes is bad
unfoldable pub begin_line : List ℕ → Option Begin
begin_line l = cond (ltb max_line (length l)) None (begin_fields (fields l))

-- 'The answer to a call', 9: the cursor given exceeds the buffer's length; the form and the limits are judged before
abbrev pub sized : Option Begin → Result Begin BadBegin
sized None = Err Form
sized (Some b) = cond (ltb b.size b.cursor) (Err Cursor) (Ok b)

-- 'The call sheet': how line 1 begins a run
abbrev pub begin_of : List ℕ → Result Begin BadBegin
begin_of l = sized (begin_line l)
