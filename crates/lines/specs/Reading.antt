-- Document 01, 'The call sheet': what the bytes that are held of an input say about its lines, whatever is read later.
use Rattle.std.specs.Prelude.{Bool, true, false, cond, ◌==◌, ◌≡◌, Option, MatchOption, position, List, [], ◌∷◌, ◌++◌, ℕ, ◌-◌, ◌≤◌, ◌<◌, length, take, drop}
use Rattle.std.specs.Borrow.{Bor}
use Rattle.lines.specs.declared.Reader.{Reader}
use Rattle.lines.specs.Lines.{lines_of, clipped, later_lines}

-- 'The call sheet': the bytes from..to of a buffer, as far as it has them
abbrev pub held : ℕ → ℕ → List ℕ → List ℕ
held from to b = take (to - from) (drop from b)

-- 'The call sheet': the bytes that are read and not yet taken
abbrev pub held_of : Reader → List ℕ → List ℕ
held_of r b = held r.from r.to b

-- 'The call sheet': the lines of an input from here on; of a line that was too long, what is left is no line
abbrev pub ahead : ℕ → Bool → List ℕ → List (List ℕ)
ahead limit skips s = clipped limit (cond skips (later_lines (lines_of s)) (lines_of s))

-- 'The call sheet': the lines that are still to be taken, if the input goes on with rest
abbrev pub ahead_of : ℕ → Reader → List ℕ → List ℕ → List (List ℕ)
ahead_of limit r b rest = ahead limit r.skips (held_of r b ++ rest)

-- 'The call sheet': an input that has ended goes on with nothing
abbrev pub MayFollow : Bool → List ℕ → Type 0
MayFollow ended rest = ended ≡ true → rest ≡ []

-- 'The call sheet': the last line may lack its line feed; no bytes are no line
abbrev pub last_of : List ℕ → List (List ℕ)
last_of [] = []
last_of (b ∷ s) = (b ∷ s) ∷ []

-- 'The call sheet': no line has ended in these bytes, and they are not above the limit
pub record Unended (limit : ℕ) (s : List ℕ) : Type 0 where
  pub short : length s ≤ limit
  pub last : lines_of s ≡ last_of s

-- 'The call sheet': the line l is taken, and fewer bytes are held
pub record TakesLine (limit : ℕ) (r k : Reader) (l b : List ℕ) : Type 0 where
  pub line : (rest : List ℕ) → MayFollow r.ended rest → ahead_of limit r b rest ≡ l ∷ ahead_of limit k b rest
  pub fewer : length (held_of k b) < length (held_of r b)
  pub ended : k.ended ≡ r.ended

-- 'The call sheet': no line has ended, and none is left of an input that has ended
pub record TakesNone (limit : ℕ) (r k : Reader) (b : List ℕ) : Type 0 where
  pub same : (rest : List ℕ) → ahead_of limit r b rest ≡ ahead_of limit k b rest
  pub waits : Unended limit (held_of k b)
  pub none : r.ended ≡ true → ahead_of limit r b [] ≡ []
  pub ended : k.ended ≡ r.ended

-- 'The call sheet': the next line is taken, where there is one
abbrev pub Takes : ℕ → Reader → Reader → Option (Bor (List ℕ)) → List ℕ → Type 0
Takes limit r k line b = MatchOption line (TakesNone limit r k b) (λ l. TakesLine limit r k l.now b)

-- 'The call sheet': the place of the first line feed
abbrev pub line_feed : List ℕ → Option ℕ
line_feed s = position (λ b. b == 10) s

-- 'The call sheet': the n bytes that are held stand at the beginning
abbrev pub moved_of : Reader → ℕ → Reader
moved_of r n = record r { from = 0; to = n }

-- 'The call sheet': a piece is read behind the bytes that are held; where it is empty, the input has ended
pub record More (r k : Reader) (before after : List ℕ) : Type 0 where
  pub piece : List ℕ
  pub bytes : held_of k after ≡ held_of r before ++ piece
  pub skips : k.skips ≡ r.skips
  pub last : k.ended ≡ true → piece ≡ []
  pub onward : k.ended ≡ false → 0 < length piece

-- 'The call sheet': the rest of a line that was too long is left out, and no line with it
pub record Skips (r k : Reader) (b : List ℕ) : Type 0 where
  pub same : (limit : ℕ) (rest : List ℕ) → ahead_of limit r b rest ≡ ahead_of limit k b rest
  pub fewer : length (held_of k b) ≤ length (held_of r b)
  pub ended : k.ended ≡ r.ended
  pub empty : k.skips ≡ true → held_of k b ≡ []
