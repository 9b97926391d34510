-- ASCII text: lists of bytes below 128, their parts, escapes, and the texts of integers.
use mathlib.Core.Bool.{Bool, true, false, cond}
use mathlib.Core.Logic.{dite}
use mathlib.Core.List.{List, [], ◌∷◌, ◌++◌}
use Rattle.std.specs.Prelude.{None}
use Rattle.std.proofs.lemmas.Option.{none-some}
use mathlib.Core.Path.{◌≡◌, sym}
use Prim.Native.Nat.{ℕ, zero, suc, ◌+◌, ◌/◌, ◌%◌, ◌≤◌, ◌<◌}
use native.Mathlib.Decide.{dec_lt}
use native.Mathlib.Nat.{le_refl, div-lt_self, mod-lt}
use native.Mathlib.Omega.{arith}
use lib.Dec.{ltb, eqb}
use lib.IntN.{ℤ, pos, negsuc}
use lib.ListN.{take, drop, replicate}
use borrow.Author.Tests.{le-leb, lt-leb}
use Rattle.error.specs.declared.Error.TheVariants.{NotAscii}
use Rattle.formatting.specs.declared.escaping.Escape.{Escape}
use Rattle.formatting.specs.declared.escaping.Escape.TheVariants.{Backslash}
use Rattle.formatting.specs.declared.flags.FormattingFlags.{FormattingFlags}
use Rattle.formatting.specs.declared.flags.HexFormatting.{HexFormatting}
use Rattle.formatting.specs.declared.flags.HexFormatting.TheVariants.{Upper, Lower}
use Rattle.formatting.specs.declared.flags.NumberFormatting.{NumberFormatting}
use Rattle.formatting.specs.declared.flags.NumberFormatting.TheVariants as Num
use Rattle.formatting.specs.Escape.{escape_of, escape_text}
use Rattle.formatting.specs.Hex.{hex_digit}
use Rattle.utils.specs.declared.Range.{Range}
use Rattle.utils.specs.Text.{saturated, part}
use Rattle.ascii_str.specs.Ascii.{ascii_from}
use Rattle.pwrapper.specs.Digits.{digit_text, dec_digit}
use Rattle.pwrapper.specs.Number.{display_text, twos_complement, prefix, debug_in, debug_text}
use Rattle.pwrapper.proofs.Digits.{text-low, text-step}
use Rattle.str_writer.specs.Value.{ascii_fault}

-- bytes below 128
pub data Low : List ℕ → Type 0 where
  nil : Low []
  low : {a : ℕ} {s : List ℕ} → a < 128 → Low s → Low (a ∷ s)

pub low-append : {s t : List ℕ} → Low s → Low t → Low (s ++ t)
low-append nil q = q
low-append (low h p) q = low h (low-append p q)

low-take : {s : List ℕ} (n : ℕ) → Low s → Low (take n s)
low-take zero p = nil
low-take (suc n) nil = nil
low-take (suc n) (low h p) = low h (low-take n p)

low-drop : {s : List ℕ} (n : ℕ) → Low s → Low (drop n s)
low-drop zero p = p
low-drop (suc n) nil = nil
low-drop (suc n) (low h p) = low-drop n p

-- a part of ASCII text
pub low_part : (s : List ℕ) (r : Range) → Low s → Low (part s r)
low_part s r p = low-drop (saturated s r).start (low-take (saturated s r).end p)

pub low-replicate : (n a : ℕ) → a < 128 → Low (replicate n a)
low-replicate zero a h = nil
low-replicate (suc n) a h = low h (low-replicate n a h)

-- what passes the ASCII test
pub low-ascii : (s : List ℕ) (i : ℕ) → ascii_fault (ascii_from i s) ≡ None → Low s
unfolding ascii_from
low-ascii [] i e = nil
low-ascii (b ∷ s) i e =
    dite (dec_lt b 128)
    (λ h. low h (low-ascii s (i + 1) (rw (le-leb b 127 (omega arith)) at e)))
    (λ h. absurd (none-some NotAscii (sym (rw (lt-leb b 127 (omega arith)) at e))))

-- a property of both branches
either : {A : Type 0} (P : A → Type 0) (t : Bool) {x y : A} → P x → P y → P (cond t x y)
either P true p q = p
either P false p q = q

-- the byte of a hexadecimal digit
hex_low : (h : HexFormatting) (d : ℕ) → d < 16 → hex_digit h d < 128
hex_low Upper d k = either (λ (n : ℕ). n < 128) (ltb d 10) (omega arith) (omega arith)
hex_low Lower d k = either (λ (n : ℕ). n < 128) (ltb d 10) (omega arith) (omega arith)

-- the text of a byte under its escape
pub low_escape : (b : ℕ) → b < 128 → Low (escape_text (escape_of b) b)
unfolding escape_of
low_escape b h =
    let P : Escape → Type 0 = λ e. Low (escape_text e b) in
    let letter : (l : ℕ) → l < 128 → P (Backslash l) = λ l k. low {a = 92} (omega arith) (low k nil) in
    either P (eqb b 9) (letter 116 (omega arith))
    (either P (eqb b 10) (letter 110 (omega arith))
    (either P (eqb b 13) (letter 114 (omega arith))
    (either P (eqb b 92) (letter 92 (omega arith))
    (either P (eqb b 39) (letter 39 (omega arith))
    (either P (eqb b 34) (letter 34 (omega arith))
    (either P (ltb b 32) (low {a = 92} (omega arith) (low {a = 120} (omega arith) (low (hex_low Upper (b / 16) (omega arith)) (low (hex_low Upper (b % 16) (omega arith)) nil))))
    (low h nil)))))))

-- the digits of a number, where f gives the byte of a digit
module _ (b : ℕ) (b2 : 2 ≤ b) (f : ℕ → ℕ) (byte : (d : ℕ) → d < b → f d < 128) where
  one-digit : (n : ℕ) → n < b → Low (digit_text f b n)
  one-digit n h = rw (text-low b b2 f n h) (low (byte n h) nil)

  in_digits : (k n : ℕ) → n ≤ k → Low (digit_text f b n)
  in_digits zero n h = one-digit n (omega arith)
  in_digits (suc k) n h =
      dite (dec_lt n b) (one-digit n)
      (λ l. let q : n / b < n = div-lt_self {n = n} {k = b} (omega arith) b2 in
      rw (text-step b b2 f n (omega arith)) (low-append (in_digits k (n / b) (omega arith)) (low (byte (n % b) (mod-lt n (omega arith))) nil)))

  low-digits : (n : ℕ) → Low (digit_text f b n)
  low-digits n = in_digits n n (le_refl n)

-- the texts of an integer
low-prefix : (t : Bool) (x : ℕ) → x < 128 → Low (prefix t x)
low-prefix true x h = low {a = 48} (omega arith) (low h nil)
low-prefix false x h = nil

pub low-display : (z : ℤ) → Low (display_text z)
low-display (pos n) = low-digits 10 (omega arith) dec_digit (λ d h. omega arith) n
low-display (negsuc n) = low {a = 45} (omega arith) (low-digits 10 (omega arith) dec_digit (λ d h. omega arith) (suc n))

low-debug_in : (m : NumberFormatting) (f : FormattingFlags) (k : ℕ) (z : ℤ) → Low (debug_in m f k z)
low-debug_in Num.Decimal f k z = low-display z
low-debug_in Num.Hexadecimal f k z = low-append (low-prefix f.is_alternate 120 (omega arith)) (low-digits 16 (omega arith) (hex_digit f.hex_fmt) (hex_low f.hex_fmt) (twos_complement k z))
low-debug_in Num.Binary f k z = low-append (low-prefix f.is_alternate 98 (omega arith)) (low-digits 2 (omega arith) dec_digit (λ d h. omega arith) (twos_complement k z))

pub low-debug : (f : FormattingFlags) (k : ℕ) (z : ℤ) → Low (debug_text f k z)
low-debug f k z = low-debug_in f.num_fmt f k z
