-- Document 01, 'Beside the record': `Integer` and its digits laid in arrays.
use Rattle.std.specs.Prelude.{ℕ, ◌-◌, ◌%◌, ◌^◌, ◌≡◌, ◌+◌, Bool, true, false, cond, List, ◌∷◌, ◌++◌, length, replicate, ℤ, pos, negsuc, bit_and, unsigned_abs}
use Rattle.pargument.specs.declared.Integer.{Integer}
use Rattle.pwrapper.specs.Number.{decimal}

-- 'Beside the record': whether an integer is below zero
abbrev pub is_below_zero : ℤ → Bool
is_below_zero (pos n) = false
is_below_zero (negsuc n) = true

-- 'Beside the record': `Integer` cut to 64-bit fields, made of an integer of k bits; the mask has the k low bits set
abbrev pub integer_of : ℕ → ℤ → Integer
integer_of k z = record { is_negative = is_below_zero z; unsigned = unsigned_abs z; mask = 2 ^ k - 1 }

-- 'Beside the record': `is_negative` with zero displays `-0`
abbrev pub integer_display : Integer → List ℕ
integer_display i = cond i.is_negative (45 ∷ decimal i.unsigned) (decimal i.unsigned)

-- 'Beside the record': the bits of an `Integer`, its two's complement in 64 bits under its mask
abbrev pub integer_bits : Integer → ℕ
integer_bits i = bit_and (cond i.is_negative ((2 ^ 64 - i.unsigned) % 2 ^ 64) i.unsigned) i.mask

-- 'Beside the record': where a text that ends at the end of an array of n bytes starts
abbrev pub start_of : ℕ → List ℕ → ℕ
start_of n t = n - length t

-- 'Beside the record': that array, zero before the text
abbrev pub array_of : ℕ → List ℕ → List ℕ
array_of n t = replicate (n - length t) 0 ++ t

-- an array of `size` bytes, zero before `at`, the text from there to its end
pub record Ends (size : ℕ) (array : List ℕ) (at : ℕ) (text : List ℕ) : Type 0 where
  pub bytes : array ≡ replicate at 0 ++ text
  pub whole : at + length text ≡ size
