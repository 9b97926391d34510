-- The sheet of the definitions that the code's two runs and the lent bytes are.
use Rattle.std.specs.Prelude.{Bool, List, [], ℕ, Option}
use Rattle.calls.specs.Call.{Call}
use Rattle.str_writer.specs.Write.{Outcome, outcome, written, put}
use Rattle.formatter.specs.View.{view_f}
use Rattle.calls.specs.Model.{step}
use Rattle.sheet.specs.Sheet.{Sheet, row_of, stepped}
use Rattle.sheet.specs.declared.print.Row.{Row}
use Rattle.sheet.specs.declared.Answered.{Answered}
use Rattle.sheet.specs.declared.Sheet as code

-- 'The call sheet': the counting run has no buffer
abbrev pub sheet_of : code.Sheet → List ℕ → Sheet
sheet_of s b = record { counted = view_f s.counted []; written = view_f s.written b }

-- 'The call sheet': both runs advanced by a call, and its row
pub record Step : Type 0 where
  pub sheet : Sheet
  pub row : Row

-- 'The call sheet': the same of the code's sheet
abbrev pub stepped_of : code.Sheet → Row → List ℕ → Step
stepped_of s r b = record { sheet = sheet_of s b; row = r }

-- Document 01, 'The call sheet': a call goes to both runs
abbrev pub stepping : ℕ → Sheet → Call → Step
stepping k S c =
    let a = step S.counted c in
    let b = step S.written c in
    record { sheet = record { counted = a.state; written = b.state }; row = row_of k a b }

-- 'The call sheet': whether a line is a call, both runs after it, and the buffer that it prints to
pub record LineAnswer : Type 0 where
  pub is_call : Bool
  pub sheet : Sheet
  pub printed : Outcome

-- 'The call sheet': the same of what the code answers at a cursor, with its sheet and the bytes as they then are
abbrev pub answered : ℕ → Answered → code.Sheet → List ℕ → List ℕ → LineAnswer
answered at r s b out = record { is_call = r.is_call; sheet = sheet_of s b; printed = outcome (written at r.print) out }

-- Document 01, 'The call sheet': what line k answers, printed at a cursor
abbrev pub answering : ℕ → Sheet → Option Call → List ℕ → ℕ → LineAnswer
answering k S c out at = let o = stepped k S c in record { is_call = o.is_call; sheet = o.sheet; printed = put out at o.text }
