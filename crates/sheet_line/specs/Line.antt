-- Document 01, 'The call sheet': the call that a line means.
use Rattle.std.specs.Prelude.{cond, List, [], ◌∷◌, ℕ, zero, suc, ◌-◌, ◌^◌, eqb, ltb, ℤ, pos, negsuc, length, Option, Some, None}
use Rattle.std.specs.Option.{option_map, option_and_then}
use Rattle.std.specs.Str.{bytes_eq}
use Rattle.calls.specs.declared.Kind.TheVariants.{Struct, Tuple, Set}
use Rattle.calls.specs.declared.Kind.TheVariants as kind
use Rattle.calls.specs.Call.{Call, opens, place, value, finish, field, item, entry}
use Rattle.str_writer.specs.Value.{integer, char, str, display, debug, whole}
use Rattle.value_writes.specs.declared.Width.TheVariants.{W8, W16, W32, W64}
use Rattle.value_writes.specs.Values.{bits_of}
use Rattle.lines.specs.Lines.{max_line}
use Rattle.formatting.specs.Bytes.{bytes}
use Rattle.fields.specs.Fields.{fields}
use Rattle.fields.specs.Decimal.{decimal_of, up_to}
use Rattle.fields.specs.Hex.{from_hex}
use Rattle.sheet_line.specs.declared.numbers.IntType.{IntType}
use Rattle.sheet_line.specs.declared.numbers.IntType.TheVariants.{Unsigned, Signed}

-- 'The call sheet', `num`: u8 to u64 or i8 to i64
unfoldable pub type_of : List ℕ → Option IntType
type_of t =
    cond (bytes_eq t (bytes "u8")) (Some (Unsigned W8))
    (cond (bytes_eq t (bytes "u16")) (Some (Unsigned W16))
    (cond (bytes_eq t (bytes "u32")) (Some (Unsigned W32))
    (cond (bytes_eq t (bytes "u64")) (Some (Unsigned W64))
    (cond (bytes_eq t (bytes "i8")) (Some (Signed W8))
    (cond (bytes_eq t (bytes "i16")) (Some (Signed W16))
    (cond (bytes_eq t (bytes "i32")) (Some (Signed W32))
    (cond (bytes_eq t (bytes "i64")) (Some (Signed W64))
    None)))))))

-- 'The call sheet': a minus only below zero, so `-0` is none; negsuc n is -(n + 1)
abbrev pub negative : Option ℕ → Option ℤ
negative None = None
negative (Some zero) = None
negative (Some (suc n)) = Some (negsuc n)

-- 'The call sheet': a signed value of k bits, in decimal
abbrev pub signed_of : ℕ → List ℕ → Option ℤ
signed_of k [] = None
signed_of k (b ∷ s) = cond (eqb b 45) (negative (up_to (2 ^ (k - 1)) (decimal_of s))) (option_map pos (up_to (2 ^ (k - 1) - 1) (decimal_of (b ∷ s))))

-- 'The call sheet', `num`: a value of its type, in decimal; one outside it is none
abbrev pub value_in : IntType → List ℕ → Option ℤ
value_in (Unsigned w) s = option_map pos (up_to (2 ^ bits_of w - 1) (decimal_of s))
value_in (Signed w) s = signed_of (bits_of w) s

-- 'The call sheet': the bits of a type
abbrev pub type_bits : IntType → ℕ
type_bits (Unsigned w) = bits_of w
type_bits (Signed w) = bits_of w

-- 'The call sheet': `num,u8,7`, debug form
abbrev pub num_call : IntType → List ℕ → Option Call
num_call t s = option_map (λ z. value (integer debug (type_bits t) z)) (value_in t s)

-- 'The call sheet', `num`: a call with the type that a field names
abbrev pub typed_call : List ℕ → List ℕ → Option Call
typed_call t s = option_and_then (λ k. num_call k s) (type_of t)

-- 'The call sheet': `char,CODE`, decimal, unquoted; at most 2^32 - 1
abbrev pub char_call : List ℕ → Option Call
char_call s = option_map (λ c. value (char display c)) (up_to (2 ^ 32 - 1) (decimal_of s))

-- 'The call sheet': `field` (tuple), `entry`, `finish`
unfoldable pub one_field : List ℕ → Option Call
one_field w =
    cond (bytes_eq w (bytes "field")) (Some (place item))
    (cond (bytes_eq w (bytes "entry")) (Some (place entry))
    (cond (bytes_eq w (bytes "finish")) (Some finish)
    None))

-- 'The call sheet': `open,list|set`
unfoldable pub open_bare : List ℕ → Option Call
open_bare k = cond (bytes_eq k (bytes "list")) (Some (opens kind.List [])) (cond (bytes_eq k (bytes "set")) (Some (opens Set [])) None)

-- 'The call sheet': `open,list|set`, `field,HEX` (struct), `str,HEX`, `quoted,HEX`, `char,CODE`
unfoldable pub two_fields : List ℕ → List ℕ → Option Call
two_fields w a =
    cond (bytes_eq w (bytes "open")) (open_bare a)
    (cond (bytes_eq w (bytes "field")) (option_map (λ s. place (field s)) (from_hex a))
    (cond (bytes_eq w (bytes "str")) (option_map (λ s. value (str display s (whole s))) (from_hex a))
    (cond (bytes_eq w (bytes "quoted")) (option_map (λ s. value (str debug s (whole s))) (from_hex a))
    (cond (bytes_eq w (bytes "char")) (char_call a)
    None))))

-- 'The call sheet': `open,struct|tuple,HEX`
unfoldable pub open_named : List ℕ → List ℕ → Option Call
open_named k a = cond (bytes_eq k (bytes "struct")) (option_map (opens Struct) (from_hex a)) (cond (bytes_eq k (bytes "tuple")) (option_map (opens Tuple) (from_hex a)) None)

-- 'The call sheet': `open,struct|tuple,HEX`, `num,u8,7`
unfoldable pub three_fields : List ℕ → List ℕ → List ℕ → Option Call
three_fields w a b = cond (bytes_eq w (bytes "open")) (open_named a b) (cond (bytes_eq w (bytes "num")) (typed_call a b) None)

-- 'The call sheet': a line of another form is no call; `begin` stands in line 1 only
abbrev pub call_fields : List (List ℕ) → Option Call
call_fields [] = None
call_fields (w ∷ []) = one_field w
call_fields (w ∷ a ∷ []) = two_fields w a
call_fields (w ∷ a ∷ b ∷ []) = three_fields w a b
call_fields (w ∷ a ∷ b ∷ x ∷ fs) = None

-- 'The call sheet': the call that a line means; a line above 4,096 bytes is none
unfoldable pub call_of_line : List ℕ → Option Call
call_of_line l = cond (ltb max_line (length l)) None (call_fields (fields l))
