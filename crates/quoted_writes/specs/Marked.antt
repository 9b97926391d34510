-- Document 01, 'A string': what the functions give that write a text between quotation marks.
use Rattle.std.specs.Prelude.{Bool, true, not, ◌&&◌, ◌≡◌, List, [], ◌∷◌, ℕ, ◌+◌, ◌≤◌, length, take}
use Rattle.formatting.specs.Escape.{escape_of, is_escaped}
use Rattle.str_writer.specs.Write.{splice}

-- 'A string': every byte stands for itself between the marks
abbrev pub all_bare : List ℕ → Bool
all_bare [] = true
all_bare (b ∷ bs) = not (is_escaped (escape_of b)) && all_bare bs

-- 'A string': the first n bytes of s stand for themselves, and b' is b with them from the place `at` on
abbrev pub CopiesBare : List ℕ → ℕ → List ℕ → ℕ → List ℕ → Type 0
CopiesBare b at s n b' = (n ≤ length s) × (all_bare (take n s) ≡ true) × (b' ≡ splice b at (take n s))

-- 'The writer': b' is b with t from the place `at` on, and `end` is the place behind t
abbrev pub Writes : List ℕ → ℕ → List ℕ → ℕ → List ℕ → Type 0
Writes b at t end b' = (end ≡ at + length t) × (b' ≡ splice b at t)
