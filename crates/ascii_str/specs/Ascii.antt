-- Document 01, 'The answer to a call': ASCII text.
use Rattle.std.specs.Prelude.{cond, List, [], ◌∷◌, ℕ, ◌+◌, leb, ⊤, Result, Ok, Err}
use Rattle.ascii_str.specs.declared.NotAsciiError.{NotAsciiError}

-- 'The answer to a call', 2: whether a text holds a byte above 127, and the place of the first, counted from i
unfoldable pub ascii_from : ℕ → List ℕ → Result ⊤ NotAsciiError
ascii_from i [] = Ok tt
ascii_from i (b ∷ bs) = cond (leb b 127) (ascii_from (i + 1) bs) (Err (record { invalid_from = i }))
