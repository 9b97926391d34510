-- A run as data: five words to a call, over a pool of texts. The words are: which call, where its text starts in the pool, how long the text is, and two numbers a and b. Document 01 has no such form: docs/DECISIONS.md, 'The formatter', says why there is one.
use Rattle.std.specs.Prelude.{cond, List, [], ◌∷◌, ℕ, zero, suc, ◌-◌, ◌^◌, leb, ltb, eqb, ℤ, pos, negsuc, length, take, drop, Option, Some, None}
use Rattle.std.specs.Option.{option_map, option_and_then}
use Rattle.formatting.specs.FlagsAsNumber.{are_flags, flags_of}
use Rattle.calls.specs.declared.Kind.TheVariants.{Struct, Tuple, Set}
use Rattle.calls.specs.declared.Kind.TheVariants as kind
use Rattle.calls.specs.Call.{Call}
use Rattle.writer_backend.specs.declared.record.PlaceKind.TheVariants.{Field, Item}
use Rattle.writer_backend.specs.declared.record.PlaceKind.TheVariants as place-kind
use Rattle.value_writes.specs.declared.Form.{Form}
use Rattle.value_writes.specs.declared.Form.TheVariants.{Display, Debug}
use Rattle.value_writes.specs.declared.Width.{Width}
use Rattle.value_writes.specs.declared.Width.TheVariants.{W8, W16, W32, W64}
use Rattle.value_writes.specs.declared.Integer.TheVariants.{Unsigned, Signed}
use Rattle.value_writes.specs.declared.PVariant.TheVariants.{Int, Char, Str, Ascii, Repeated}
use Rattle.value_writes.specs.Values.{bits_of}
use Rattle.formatter.specs.declared.dispatch.Op.{Op}
use Rattle.formatter.specs.declared.dispatch.Op.TheVariants.{Open, Place, Finish, Sub, EndSub, Value}
use Rattle.formatter.specs.Calls.{call_of}

-- the width that a number is: 8, 16, 32 or 64 bits
abbrev pub width_at : ℕ → Option Width
width_at zero = Some W8
width_at (suc zero) = Some W16
width_at (suc (suc zero)) = Some W32
width_at (suc (suc (suc zero))) = Some W64
width_at (suc (suc (suc (suc n)))) = None

-- the signed integer whose two's complement at k bits is a
abbrev pub signed_at : ℕ → ℕ → ℤ
signed_at k a = cond (ltb a (2 ^ (k - 1))) (pos a) (negsuc (2 ^ k - 1 - a))

-- an integer of a width: a is its bits, and more bits than the width has are no call
abbrev pub unsigned_of : Form → ℕ → Width → Option Op
unsigned_of m a w = cond (ltb a (2 ^ bits_of w)) (Some (Value (Int m (Unsigned w a)))) None

-- the same of the width that b is
abbrev pub unsigned_at : Form → ℕ → ℕ → Option Op
unsigned_at m a b = option_and_then (unsigned_of m a) (width_at b)

-- the same of a signed integer
abbrev pub integer_of : Form → ℕ → Width → Option Op
integer_of m a w = cond (ltb a (2 ^ bits_of w)) (Some (Value (Int m (Signed w (signed_at (bits_of w) a))))) None

-- the same of the width that b is
abbrev pub integer_at : Form → ℕ → ℕ → Option Op
integer_at m a b = option_and_then (integer_of m a) (width_at b)

-- a character's code; one of more than 32 bits is no call
abbrev pub char_at : Form → ℕ → Option Op
char_at m a = cond (ltb a (2 ^ 32)) (Some (Value (Char m a))) None

-- a byte and how often; more than a byte is no call
abbrev pub repeated_at : ℕ → ℕ → Option Op
repeated_at a b = cond (ltb a 256) (Some (Value (Repeated a b))) None

-- the values: strings and ASCII text with the range from a to b, characters, a repeated character, integers
unfoldable pub value_at : ℕ → ℕ → ℕ → Option Op
value_at o a b =
    cond (eqb o 10) (Some (Value (Str Display (record { start = a; end = b }))))
    (cond (eqb o 11) (Some (Value (Str Debug (record { start = a; end = b }))))
    (cond (eqb o 12) (Some (Value (Ascii Display (record { start = a; end = b }))))
    (cond (eqb o 13) (Some (Value (Ascii Debug (record { start = a; end = b }))))
    (cond (eqb o 14) (char_at Display a)
    (cond (eqb o 15) (char_at Debug a)
    (cond (eqb o 16) (repeated_at a b)
    (cond (eqb o 17) (unsigned_at Display a b)
    (cond (eqb o 18) (unsigned_at Debug a b)
    (cond (eqb o 19) (integer_at Display a b)
    (cond (eqb o 20) (integer_at Debug a b)
    None))))))))))

-- the call that a number is: openings, fields and entries, finish, sub-formatters, values
unfoldable pub op_at : ℕ → ℕ → ℕ → Option Op
op_at o a b =
    cond (eqb o 0) (Some (Open Struct))
    (cond (eqb o 1) (Some (Open Tuple))
    (cond (eqb o 2) (Some (Open kind.List))
    (cond (eqb o 3) (Some (Open Set))
    (cond (eqb o 4) (Some (Place Field))
    (cond (eqb o 5) (Some (Place Item))
    (cond (eqb o 6) (Some (Place place-kind.Entry))
    (cond (eqb o 7) (Some Finish)
    (cond (eqb o 8) (cond (are_flags a) (Some (Sub (flags_of a))) None)
    (cond (eqb o 9) (Some EndSub)
    (value_at o a b))))))))))

-- the text is the n bytes of the pool t from i on; where the pool does not have them, it is no call
unfoldable pub call_at : ℕ → ℕ → ℕ → ℕ → ℕ → List ℕ → Option Call
call_at o i n a b t = cond (leb i (length t)) (cond (leb n (length t - i)) (option_map (λ op. call_of op (take n (drop i t))) (op_at o a b)) None) None

-- the calls of a list of words; words at the end that are no whole call are left out
unfoldable pub decode : List ℕ → List ℕ → List (Option Call)
decode [] t = []
decode (o ∷ []) t = []
decode (o ∷ i ∷ []) t = []
decode (o ∷ i ∷ n ∷ []) t = []
decode (o ∷ i ∷ n ∷ a ∷ []) t = []
decode (o ∷ i ∷ n ∷ a ∷ b ∷ rest) t = call_at o i n a b t ∷ decode rest t
