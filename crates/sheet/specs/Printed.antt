-- Document 01, 'The call sheet': what a sheet prints.
use Rattle.std.specs.Prelude.{cond, List, [], ◌∷◌, ◌++◌, ℕ, suc, replicate, Result, Ok, Err}
use Rattle.lines.specs.Lines.{lines_of}
use Rattle.sheet_line.specs.declared.begin.Begin.{Begin}
use Rattle.sheet_line.specs.declared.begin.BadBegin.{BadBegin}
use Rattle.sheet_line.specs.declared.begin.BadBegin.TheVariants.{Form, Cursor}
use Rattle.sheet_line.specs.Begin.{begin_of}
use Rattle.sheet_line.specs.Line.{call_of_line}
use Rattle.sheet.specs.Sheet.{Sheet, fresh_sheet, bad_text, refused_text, end_text, stepped}

-- 'The call sheet': from line k on; `bad` ends the run without `end`
abbrev pub printed_from : ℕ → Sheet → List (List ℕ) → List ℕ
printed_from k S [] = end_text S
printed_from k S (l ∷ ls) = let o = stepped k S (call_of_line l) in o.text ++ cond o.is_call (printed_from (suc k) o.sheet ls) []

-- 'The call sheet': `begin` prints nothing, or `1,9` if refused; n bytes, all zero
abbrev pub printed_after : Result Begin BadBegin → List (List ℕ) → List ℕ
printed_after (Err Form) ls = bad_text 1
printed_after (Err Cursor) ls = refused_text
printed_after (Ok b) ls = printed_from 2 (fresh_sheet (replicate b.size 0) b.cursor (record { flags = b.flags })) ls

-- 'The call sheet': empty input prints nothing
abbrev pub printed_lines : List (List ℕ) → List ℕ
printed_lines [] = []
printed_lines (l ∷ ls) = printed_after (begin_of l) ls

-- 'The call sheet': what the program prints for an input
abbrev pub printed : List ℕ → List ℕ
printed input = printed_lines (lines_of input)
