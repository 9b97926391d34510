-- The two halves of a signed type, and a value without a minus.
use borrow.Author.Rules.{rules}
use Rattle.std.proofs.Common.{◌≡◌, List, ℕ, ◌+◌, ◌-◌, ◌/◌, ◌^◌, ◌<◌, length, pos, arith}
use Rattle.std.specs.Option.{option_map}
use lib.ListN.{get_or}
use Rattle.value_writes.specs.declared.Width.{Width}
use Rattle.value_writes.specs.Values.{bits_of}
use Rattle.encoded_call.proofs.Decoding.{half}
use Rattle.fields.specs.Decimal.{is_shortest, decimal_of, up_to}
use Rattle.sheet_line.specs.Line.{signed_of}

-- half of the greatest number of a type
pub greatest_half : (w : Width) (g : ℕ) → g + 1 ≡ 2 ^ bits_of w → g / 2 ≡ 2 ^ (bits_of w - 1) - 1
greatest_half w g e = omega (arith, half w)

pub signed-plain : (k : ℕ) (s : List ℕ) → (0 < length s → get_or s 0 0 ≡ 45 → ⊥) → signed_of k s ≡ option_map pos (up_to (2 ^ (k - 1) - 1) (decimal_of s))
unfolding is_shortest
signed-plain k s h = search rules
