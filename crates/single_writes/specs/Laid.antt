-- Document 01, 'Beside the record': an `Integer` as three numbers, and what is left of one laid in an array.
use Rattle.std.specs.Prelude.{Bool, List, ℕ}
use Rattle.error.specs.declared.Error.TheVariants.{WrongCall}
use Rattle.error.specs.Answer.{done, number_of}
use Rattle.formatting.specs.declared.flags.FormattingFlags.{FormattingFlags}
use Rattle.pwrapper.specs.Number.{hex_text, bin_text}
use Rattle.pargument.specs.declared.Integer.{Integer}
use Rattle.pargument.specs.Integer.{integer_bits, start_of, array_of}
use Rattle.single_writes.specs.ByFlags.{by_flags}

-- the `Integer` of a sign, an absolute value and a mask
abbrev pub of_parts : Bool → ℕ → ℕ → Integer
of_parts negative n m = record { is_negative = negative; unsigned = n; mask = m }

-- the answer, the place of the first digit, and the array
pub record Laid : Type 0 where
  pub answer : ℕ
  pub start : ℕ
  pub array : List ℕ

-- an answer, a place and an array as one
abbrev pub laid_in : ℕ → ℕ → List ℕ → Laid
laid_in r at a = record { answer = r; start = at; array = a }

-- a text at the end of an array of n bytes
abbrev pub laid : ℕ → List ℕ → Laid
laid n t = record { answer = done; start = start_of n t; array = array_of n t }

-- the text of an `Integer` by flags that are a number; else 8, and place and array as they were
abbrev pub laid_by : ℕ → ℕ → List ℕ → (FormattingFlags → Laid) → Laid
laid_by flags at old t = by_flags flags (laid_in (number_of WrongCall) at old) t

-- the binary text, at the end of 66 bytes
abbrev pub in_binary : Integer → FormattingFlags → Laid
in_binary i f = laid 66 (bin_text f (integer_bits i))

-- the hexadecimal text, at the end of 18 bytes
abbrev pub in_hexadecimal : Integer → FormattingFlags → Laid
in_hexadecimal i f = laid 18 (hex_text f (integer_bits i))
