-- The shortest digits of a number, as core::fmt writes them.
use Rattle.std.specs.Prelude.{ℕ, zero, suc, ◌+◌, ◌/◌, ◌%◌, cond, List, [], ◌∷◌, ◌++◌, map, nat_lt}

-- Document 01, 'A number': shortest digits, highest first; the first argument bounds how many more may come
unfoldable pub digits_in : ℕ → ℕ → ℕ → List ℕ
digits_in zero b n = n ∷ []
digits_in (suc d) b n = cond (nat_lt n b) (n ∷ []) (digits_in d b (n / b) ++ (n % b ∷ []))

-- Document 01, 'A number': the digits of n in base b, zero as one digit; n has at most n digits and one
unfoldable pub digits : ℕ → ℕ → List ℕ
digits b n = digits_in n b n

-- Document 01, 'A number': the text of n in base b, where f gives the byte of a digit
unfoldable pub digit_text : (ℕ → ℕ) → ℕ → ℕ → List ℕ
digit_text f b n = map f (digits b n)

-- Document 01, 'A number': the byte of a digit below ten
abbrev pub dec_digit : ℕ → ℕ
dec_digit d = 48 + d
