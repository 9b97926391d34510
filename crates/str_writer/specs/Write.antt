-- Document 01, 'The answer to a call' and 'The writer': a single write at a cursor into a lent buffer.
use Rattle.std.specs.Prelude.{true, cond, ◌≡◌, List, [], ◌∷◌, ◌++◌, ℕ, ◌+◌, ltb, length, take, drop, Option, Some, None, Result, Ok, Err}
use Rattle.error.specs.declared.Error.{Error}
use Rattle.error.specs.declared.Error.TheVariants.{NotEnoughSpace, BadCursor}
use Rattle.error.specs.Answer.{Answer}
use Rattle.formatting.specs.declared.flags.FormattingFlags.{FormattingFlags}
use Rattle.utf8.specs.Utf8.{well_formed}
use Rattle.str_writer.specs.Value.{Value, text_of, input_fault, cut_fault}

-- 'The writer': what a call answers, and where the cursor then is
pub record Written : Type 0 where
  pub at : ℕ
  pub answer : Answer

-- 'The writer': the same of a call at a cursor that gives the cursor behind what it did; refused, it keeps the cursor
abbrev pub written : ℕ → Result ℕ Error → Written
written at (Ok n) = record { at = n; answer = Ok tt }
written at (Err e) = record { at = at; answer = Err e }

-- 'The writer': what a call answers with the cursor, and the bytes that it leaves
pub record Outcome : Type 0 where
  pub written : Written
  pub bytes : List ℕ

-- 'The writer': an outcome, of what a call answers and the bytes behind its buffer as it returns
abbrev pub outcome : Written → List ℕ → Outcome
outcome w b = record { written = w; bytes = b }

-- 'The writer': the bytes b with t in the place of those from at on
abbrev pub splice : List ℕ → ℕ → List ℕ → List ℕ
splice b at t = take at b ++ t ++ drop (at + length t) b

-- 'The answer to a call': a refused call keeps the cursor and all bytes
abbrev pub refused : Error → List ℕ → ℕ → Outcome
refused e b at = outcome (record { at = at; answer = Err e }) b

-- 'The answer to a call': 1 where the cursor plus the piece's length exceeds the buffer's length; else the text, and the cursor past it. Ticket 5: a quoted string is refused as every piece is
unfoldable pub placed : List ℕ → ℕ → List ℕ → Outcome
placed b at t =
    cond (ltb (length b) (at + length t)) (refused NotEnoughSpace b at)
    (outcome (record { at = at + length t; answer = Ok tt }) (splice b at t))

-- 'The answer to a call', 9: the cursor given exceeds the buffer's length
abbrev pub cursor_fault : List ℕ → ℕ → Option Error
cursor_fault b at = cond (ltb (length b) at) (Some BadCursor) None

-- 'The answer to a call', order: the first fault that is met
abbrev pub first_of : List (Option Error) → Option Error
first_of [] = None
first_of (None ∷ fs) = first_of fs
first_of (Some e ∷ fs) = Some e

-- 'The answer to a call': a call that meets a fault is refused with it
abbrev pub unless : Option Error → List ℕ → ℕ → Outcome → Outcome
unless None b at o = o
unless (Some e) b at o = refused e b at

-- 'The writer': a piece of text put at the cursor
unfoldable pub put : List ℕ → ℕ → List ℕ → Outcome
put b at t = unless (cursor_fault b at) b at (placed b at t)

-- 'The answer to a call', order: 9, then 2, 4 or 5, then 3
abbrev pub write_fault : List ℕ → ℕ → Value → Option Error
write_fault b at v = first_of (cursor_fault b at ∷ input_fault v ∷ cut_fault v ∷ [])

-- 'The answer to a call', order: a fault before 1
unfoldable pub write : FormattingFlags → List ℕ → ℕ → Value → Outcome
write f b at v = unless (write_fault b at v) b at (placed b at (text_of f v))

-- 'The writer': a write keeps the text before the cursor well-formed
abbrev pub KeepsWellFormed : Type 0
KeepsWellFormed =
    (f : FormattingFlags) (b : List ℕ) (at : ℕ) (v : Value) → well_formed (take at b) ≡ true →
    well_formed (take (write f b at v).written.at (write f b at v).bytes) ≡ true
