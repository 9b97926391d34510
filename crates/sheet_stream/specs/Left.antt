-- Document 01, 'The call sheet': where a sheet stands between two lines, and what is left to print from there.
use Rattle.std.specs.Prelude.{◌≡◌, List, [], ◌∷◌, ◌++◌, ℕ, ◌+◌, ◌≤◌, take}
use Rattle.lines.specs.Lines.{max_line}
use Rattle.lines.specs.Reading.{MayFollow}
use Rattle.lines.specs.Played.{At, remains, joined, Plays, begins, Done}
use Rattle.sheet.specs.Sheet.{Sheet, max_row}
use Rattle.sheet.specs.SheetView.{sheet_of}
use Rattle.sheet.specs.Printed.{printed_from, printed_lines, printed}
use Rattle.sheet_stream.specs.declared.State.{State}
use Rattle.sheet_stream.specs.declared.State.TheVariants.{First, Later, Over}

-- 'The call sheet': before line 1; before line k with both runs; after a line that ends the run, or after `end`
pub data Stage : Type 0 where
  first : Stage
  later : ℕ → Sheet → Stage
  over : Stage

-- 'The call sheet': what the lines that are left print
abbrev pub left : Stage → List (List ℕ) → List ℕ
left first ls = printed_lines ls
left (later k S) ls = printed_from k S ls
left over ls = []

-- 'The call sheet': however the input comes in pieces, and whenever what is printed is written: of a sheet that is done, the pieces that are written make what is to be printed for the input (proved in proofs/Playing)
abbrev pub SheetPlaysRight : Type 0
SheetPlaysRight = (ins outs : List (List ℕ)) (b : At Stage) → Plays left max_line (begins first) ins outs b → Done left b → joined outs ≡ printed (joined ins)

-- 'The call sheet': and wherever it breaks off, as after a write that failed, a beginning of that, whatever the input goes on with (proved in proofs/Playing)
abbrev pub SheetBreaksOffRight : Type 0
SheetBreaksOffRight =
    (ins outs : List (List ℕ)) (b : At Stage) → Plays left max_line (begins first) ins outs b → (rest : List ℕ) → MayFollow b.ended rest → joined outs ++ remains left max_line b rest ≡ printed (joined ins ++ rest)

-- 'The call sheet': the stage that the code's state is, with the lent bytes
abbrev pub stage_of : State → List ℕ → Stage
stage_of First b = first
stage_of (Later k n s) b = later k (sheet_of s (take n b))
stage_of Over b = over

-- 'The call sheet': the line l is answered: what is printed, and is left after it, is what was printed and was left before it
pub record Answers (S T : Stage) (l out after : List ℕ) (at end : ℕ) : Type 0 where
  pub prints : (ls : List (List ℕ)) → take end after ++ left T ls ≡ take at out ++ left S (l ∷ ls)
  pub short : end ≤ at + max_row
