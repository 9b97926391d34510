-- Document 01, 'The call sheet': the lines of an input.
use Rattle.std.specs.Prelude.{cond, List, [], ◌∷◌, ℕ, ◌+◌, eqb, take}
use Rattle.fields.specs.Fields.{longer}

-- 'The call sheet': lines end in a line feed, which the last may lack
unfoldable pub lines_of : List ℕ → List (List ℕ)
lines_of [] = []
lines_of (b ∷ s) = cond (eqb b 10) ([] ∷ lines_of s) (longer b (lines_of s))

-- 'The call sheet': the most bytes of a line, its line feed not among them
abbrev pub max_line : ℕ
max_line = 4096

-- 'The call sheet': the lines as a reader gives them: of one above the limit, the limit and one byte more
abbrev pub clipped : ℕ → List (List ℕ) → List (List ℕ)
clipped limit [] = []
clipped limit (l ∷ ls) = take (limit + 1) l ∷ clipped limit ls

-- 'The call sheet': the lines behind the first
abbrev pub later_lines : List (List ℕ) → List (List ℕ)
later_lines [] = []
later_lines (l ∷ ls) = ls
