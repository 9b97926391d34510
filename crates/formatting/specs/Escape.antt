-- Document 01, 'A character' and 'A string': what stands between quotation marks.
use Rattle.std.specs.Prelude.{Bool, true, false, cond, Option, Some, None, List, [], ◌∷◌, ◌++◌, ◌≡◌, ◌≢◌, ℕ, ◌/◌, ◌%◌, ltb, eqb}
use Prim.Native.Char.{code}
use Rattle.formatting.specs.declared.escaping.Escape.{Escape}
use Rattle.formatting.specs.declared.escaping.Escape.TheVariants.{Bare, Backslash, Hexadecimal}
use Rattle.formatting.specs.declared.flags.HexFormatting.TheVariants.{Upper}
use Rattle.formatting.specs.Hex.{hex_digit}

-- 'A character': tab, line feed, return, `\`, `'`, `"`, each with its letter, `t n r \ ' "`
abbrev pub escape_letters : List (ℕ × ℕ)
escape_letters =
    (code "\t", code "t")
    ∷ (code "\n", code "n")
    ∷ (code "\r", code "r")
    ∷ (code "\\", code "\\")
    ∷ (code "'", code "'")
    ∷ (code "\"", code "\"")
    ∷ []

-- a list of pairs read at a byte: `found` of what it is paired with, or `other` where it is in no pair
abbrev pub paired_with : {A : Type 0} → (ℕ → A) → A → List (ℕ × ℕ) → ℕ → A
paired_with found other [] b = other
paired_with found other ((byte, letter) ∷ pairs) b = cond (eqb b byte) (found letter) (paired_with found other pairs b)

-- 'A character': the letter of a byte, or none
unfoldable pub letter_of : ℕ → Option ℕ
letter_of b = paired_with Some None escape_letters b

-- document 02, ticket 4: of the 256 bytes six have document 01's letters, and every other one has none (proved in proofs/Letters)
pub record LettersRight : Type 0 where
  pub tab : letter_of 9 ≡ Some (code "t")
  pub line-feed : letter_of 10 ≡ Some (code "n")
  pub return : letter_of 13 ≡ Some (code "r")
  pub quotation_mark : letter_of 34 ≡ Some (code "\"")
  pub apostrophe : letter_of 39 ≡ Some (code "'")
  pub backslash : letter_of 92 ≡ Some (code "\\")
  pub other : (b : ℕ) → b ≢ 9 → b ≢ 10 → b ≢ 13 → b ≢ 34 → b ≢ 39 → b ≢ 92 → letter_of b ≡ None

-- 'A character': a byte that has a letter becomes a backslash and the letter; other codes below 32 become `\x` and digits; the rest stay
unfoldable pub escape_of : ℕ → Escape
escape_of b = paired_with Backslash (cond (ltb b 32) Hexadecimal Bare) escape_letters b

-- 'A character': whether the byte becomes a backslash and a letter
abbrev pub is_letter : Escape → Bool
is_letter Bare = false
is_letter (Backslash l) = true
is_letter Hexadecimal = false

-- 'A character': whether the byte becomes something else than itself
abbrev pub is_escaped : Escape → Bool
is_escaped Bare = false
is_escaped (Backslash l) = true
is_escaped Hexadecimal = true

-- 'A character': the text of a byte under its escape; `\x` takes two upper hexadecimal digits
abbrev pub escape_text : Escape → ℕ → List ℕ
escape_text Bare b = b ∷ []
escape_text (Backslash l) b = 92 ∷ l ∷ []
escape_text Hexadecimal b = 92 ∷ 120 ∷ hex_digit Upper (b / 16) ∷ hex_digit Upper (b % 16) ∷ []

-- 'A string': the text of the bytes between the marks
unfoldable pub escaped : List ℕ → List ℕ
escaped [] = []
escaped (b ∷ bs) = escape_text (escape_of b) b ++ escaped bs

-- 'A string': quoted strings use `"` marks and the same escapes
abbrev pub quoted : List ℕ → List ℕ
quoted s = 34 ∷ escaped s ++ (34 ∷ [])
