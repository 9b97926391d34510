-- Demand 3 on a call sheet: what is printed where the run is proper.
use Rattle.std.specs.Prelude.{◌≡◌, ◌↔◌, List, [], ◌∷◌, ◌++◌, map, ℕ, suc, ◌+◌, ◌-◌, ◌≤◌, ◌<◌, length, take, drop, replicate, Some, Ok}
use Rattle.error.specs.declared.Error.TheVariants.{NotEnoughSpace}
use Rattle.error.specs.Answer.{number_of}
use Rattle.calls.specs.declared.Settings.{Settings}
use Rattle.calls.specs.Call.{Call}
use Rattle.calls.specs.Model.{number_in, step, most}
use Rattle.agreement.specs.Untouched.{OnlyBetween}
use Rattle.agreement.specs.Agreement.{AllDone, first_refusal, Proper, defined_text}
use Rattle.sheet_line.specs.Begin.{begin_of}
use Rattle.sheet_line.specs.Line.{call_of_line}
use Rattle.sheet.specs.declared.print.Row.{Row}
use Rattle.sheet.specs.Sheet.{Sheet, row_text, row_of, fresh_sheet, end_line, end_text}
use Rattle.lines.specs.Lines.{lines_of}
use Rattle.sheet.specs.Printed.{printed}

-- demand 3 on a sheet: the rows of a list of calls, from line k on
abbrev pub rows_from : ℕ → Sheet → List Call → List Row
rows_from k S [] = []
rows_from k S (c ∷ cs) =
    let a = step S.counted c in
    let b = step S.written c in
    row_of k a b ∷ rows_from (suc k) (record { counted = a.state; written = b.state }) cs

-- demand 3 on a sheet: both runs after a list of calls
abbrev pub sheet_after : Sheet → List Call → Sheet
sheet_after S [] = S
sheet_after S (c ∷ cs) = sheet_after (record { counted = (step S.counted c).state; written = (step S.written c).state }) cs

-- demand 3 on a sheet: rows printed
abbrev pub rows_text : List Row → List ℕ
rows_text [] = []
rows_text (r ∷ rs) = row_text r ++ rows_text rs

-- demand 3 on a sheet: every answer on the rows is 0
abbrev pub AllZero : List Row → Type 0
AllZero [] = Unit {0}
AllZero (r ∷ rs) = (r.counting_answer ≡ 0) × (r.writing_answer ≡ 0) × AllZero rs

-- demand 3 on a sheet: the counting answers on the rows, and the writing answers
abbrev pub counting_answers : List Row → List ℕ
counting_answers [] = []
counting_answers (r ∷ rs) = r.counting_answer ∷ counting_answers rs

abbrev pub writing_answers : List Row → List ℕ
writing_answers [] = []
writing_answers (r ∷ rs) = r.writing_answer ∷ writing_answers rs

-- demand 3 on a sheet: the rows of a sheet of n bytes and cursor p, from line 2 on
abbrev pub sheet_rows : ℕ → ℕ → Settings → List Call → List Row
sheet_rows n p S cs = rows_from 2 (fresh_sheet (replicate n 0) p S) cs

-- demand 3 on a sheet: the input is a sheet without `bad`: its first line begins a run, and each later line is a call
pub record SheetOf (input : List ℕ) (n p : ℕ) (S : Settings) (cs : List Call) : Type 0 where
  pub first : List ℕ
  pub later : List (List ℕ)
  pub lines : lines_of input ≡ first ∷ later
  pub begins : begin_of first ≡ Ok (record { size = n; cursor = p; flags = S.flags })
  pub calls : map call_of_line later ≡ map Some cs

-- demand 3 on a sheet: it prints a row for each call, then the last line; every answer is 0 exactly when the text fits; and then the last line shows the length of the defined text, the cursor past it, and after the first p bytes the defined text; in either case every counting answer is 0, the total is that length and the first p bytes are as they were, and where the text does not fit, the first writing refusal is 1
pub record Shows (input : List ℕ) (n p : ℕ) (S : Settings) (cs : List Call) : Type 0 where
  pub rows : printed input ≡ rows_text (sheet_rows n p S cs) ++ end_text (sheet_after (fresh_sheet (replicate n 0) p S) cs)
  pub exactly : AllZero (sheet_rows n p S cs) ↔ (p + length (defined_text S cs) ≤ n)
  pub last : p + length (defined_text S cs) ≤ n
      → end_text (sheet_after (fresh_sheet (replicate n 0) p S) cs) ≡ end_line (length (defined_text S cs)) (p + length (defined_text S cs)) (replicate p 0 ++ defined_text S cs)
  pub counts : AllDone (counting_answers (sheet_rows n p S cs))
  pub total : number_in (sheet_after (fresh_sheet (replicate n 0) p S) cs).counted.output.mode ≡ length (defined_text S cs)
  pub refused : n < p + length (defined_text S cs) → first_refusal (writing_answers (sheet_rows n p S cs)) ≡ number_of NotEnoughSpace
  pub before : take p (sheet_after (fresh_sheet (replicate n 0) p S) cs).written.output.bytes ≡ replicate p 0

-- demand 3 on a sheet: for every sheet without `bad` whose run is proper
abbrev pub SheetAgrees : Type 0
SheetAgrees =
    (input : List ℕ) (n p : ℕ) (S : Settings) (cs : List Call) → SheetOf input n p S cs → Proper S cs →
    length (defined_text S cs) ≤ most → Shows input n p S cs

-- document 02, ticket 5 on a sheet: whatever its calls, of its n bytes, which were zero, only those from p to the cursor can have changed, so past the cursor they are zero (proved in proofs/Agrees)
abbrev pub SheetRest : Type 0
SheetRest =
    (n p : ℕ) (S : Settings) (cs : List Call) →
    let o = (sheet_after (fresh_sheet (replicate n 0) p S) cs).written.output in
    OnlyBetween (replicate n 0) p o.bytes (number_in o.mode) × (drop (number_in o.mode) o.bytes ≡ replicate (n - number_in o.mode) 0)
