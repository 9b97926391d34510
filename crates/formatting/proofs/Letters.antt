-- The letters of escapes: which bytes have one, and what a byte becomes by its letter.
use Rattle.std.proofs.lemmas.Grind.{common_steps}
use borrow.Author.Rules.{rules}
use mathlib.Core.Bool.{true, cond}
use mathlib.Core.Path.{◌≡◌, refl}
use mathlib.Core.List.{List, [], ◌∷◌}
use Prim.Native.Nat.{ℕ, ◌<◌}
use native.Mathlib.Omega.{arith}
use lib.Dec.{eqb, ltb}
use Rattle.formatting.specs.declared.escaping.Escape.TheVariants.{Bare, Backslash, Hexadecimal}
use Rattle.std.specs.Prelude.{Option, Some, None}
use Rattle.formatting.specs.Escape.{escape_letters, paired_with, letter_of, LettersRight, escape_of, is_escaped}

-- document 02, ticket 4
pub letters_right : LettersRight
unfolding letter_of
letters_right =
    record {
      tab = refl;
      line-feed = refl;
      return = refl;
      quotation_mark = refl;
      apostrophe = refl;
      backslash = refl;
      other = λ b t n r q a s. search rules;
    }

-- what stands for a byte, by its letter
abbrev by_letter : {A : Type 0} → (ℕ → A) → A → Option ℕ → A
by_letter found other (Some l) = found l
by_letter found other None = other

paired : {A : Type 0} (found : ℕ → A) (other : A) (pairs : List (ℕ × ℕ)) (b : ℕ) → paired_with found other pairs b ≡ by_letter found other (paired_with Some None pairs b)
paired found other [] b = refl
paired found other ((byte, l) ∷ pairs) b = grind (arith, common_steps, paired found other pairs b)

-- the escape of a byte, by its letter
pub by_letter_lem : (b : ℕ) → escape_of b ≡ by_letter Backslash (cond (ltb b 32) Hexadecimal Bare) (letter_of b)
unfolding escape_of letter_of
by_letter_lem b = paired Backslash (cond (ltb b 32) Hexadecimal Bare) escape_letters b

-- codes below 32 are escaped, and above 39 the backslash alone
pub low-escaped : (b : ℕ) → b < 32 → is_escaped (escape_of b) ≡ true
unfolding escape_of
low-escaped b h = search rules

pub high_escaped : (b : ℕ) → 39 < b → eqb b 92 ≡ is_escaped (escape_of b)
unfolding escape_of
high_escaped b h = search rules
