-- Document 01, 'The call sheet': both runs advanced by a line, and the text that it prints.
use Rattle.std.specs.Prelude.{Bool, true, false, List, [], ◌∷◌, ◌++◌, ℕ, ◌+◌, ◌*◌, take, Option, Some, None}
use Rattle.calls.specs.declared.Settings.{Settings}
use Rattle.calls.specs.Call.{Call}
use Rattle.calls.specs.Model.{number_in, counting, writing, State, Out, step, start}
use Rattle.formatting.specs.Bytes.{bytes}
use Rattle.fields.specs.Decimal.{cell}
use Rattle.fields.specs.Hex.{hex_pairs}
use Rattle.sheet.specs.declared.print.Row.{Row}

-- 'The call sheet': the two runs of a sheet
pub record Sheet : Type 0 where
  pub counted : State
  pub written : State

-- 'A nested record': fresh, settings S, a total of 0, and cursor p over the bytes b
abbrev pub fresh_sheet : List ℕ → ℕ → Settings → Sheet
fresh_sheet b p S = record { counted = start (counting 0) [] S; written = start (writing p) b S }

-- 'The call sheet': line number, counting answer, total, writing answer, cursor
unfoldable pub row_text : Row → List ℕ
row_text r = cell r.line 44 ++ cell r.counting_answer 44 ++ cell r.total 44 ++ cell r.writing_answer 44 ++ cell r.cursor 10

-- 'The call sheet': the most bytes of a row: five numbers of at most 20 digits, each with the byte behind it
abbrev pub max_row : ℕ
max_row = 105

-- 'The call sheet': the row of what both runs answer
abbrev pub row_of : ℕ → Out → Out → Row
row_of k c w = record { line = k; counting_answer = c.answer; total = number_in c.state.output.mode; writing_answer = w.answer; cursor = number_in w.state.output.mode }

-- 'The call sheet': the line number, a comma and `bad`
unfoldable pub bad_text : ℕ → List ℕ
bad_text k = cell k 44 ++ bytes "bad\n"

-- 'The call sheet': `1,9` if `begin` is refused
abbrev pub refused_text : List ℕ
refused_text = bytes "1,9\n"

-- 'The call sheet': `end`, total, cursor
abbrev pub end_head : ℕ → ℕ → List ℕ
end_head total cursor = bytes "end," ++ cell total 44 ++ cell cursor 44

-- 'The call sheet': `end`, total, cursor, bytes before the cursor as HEX
unfoldable pub end_line : ℕ → ℕ → List ℕ → List ℕ
end_line total cursor b = end_head total cursor ++ hex_pairs b ++ (10 ∷ [])

-- 'The call sheet': the most bytes of a last line that shows n bytes: `end,`, two such numbers, n pairs, a line feed
abbrev pub max_end : ℕ → ℕ
max_end n = 47 + 2 * n

-- 'The call sheet': the last line of a sheet
abbrev pub end_text : Sheet → List ℕ
end_text S = end_line (number_in S.counted.output.mode) (number_in S.written.output.mode) (take (number_in S.written.output.mode) S.written.output.bytes)

-- 'The call sheet': whether a line is a call, both runs after it, and what it prints
pub record Stepped : Type 0 where
  pub is_call : Bool
  pub sheet : Sheet
  pub text : List ℕ

-- 'The call sheet': a call goes to both runs and prints a row; a line of another form prints `bad`
abbrev pub stepped : ℕ → Sheet → Option Call → Stepped
stepped k S None = record { is_call = false; sheet = S; text = bad_text k }
stepped k S (Some c) =
    let a = step S.counted c in
    let b = step S.written c in
    record { is_call = true; sheet = record { counted = a.state; written = b.state }; text = row_text (row_of k a b) }
