-- The sheet as a program that answers lines: what it writes in all.
use borrow.Author.Rules.{rules}
use mathlib.Core.Bool.{Bool, true, false}
use mathlib.Core.Path.{◌≡◌, refl, ap, sym, ◌∙◌}
use mathlib.Core.List.{List, [], ◌∷◌, ◌++◌}
use Prim.Native.Nat.{ℕ, suc, ◌+◌, ◌<◌}
use native.Mathlib.Omega.{arith}
use borrow.Author.Tests.{ltb-true, ltb-false}
use lib.Dec.{ltb}
use lib.ListN.{length, take, replicate}
use lib.Seq.{take_all, length-take-le}
use Rattle.std.specs.Prelude.{None, Result, Ok, Err}
use Rattle.lines.specs.Lines.{lines_of, max_line, clipped}
use Rattle.lines.specs.Played.{joined}
use Rattle.lines.proofs.Playing.{plays_right, breaks_off_right}
use Rattle.sheet_line.specs.declared.begin.Begin.{Begin}
use Rattle.sheet_line.specs.declared.begin.BadBegin.{BadBegin}
use Rattle.sheet_line.specs.declared.begin.BadBegin.TheVariants.{Form, Cursor}
use Rattle.sheet_line.specs.Begin.{begin_line, begin_of}
use Rattle.sheet_line.specs.Line.{call_of_line}
use Rattle.sheet.specs.Sheet.{Sheet, fresh_sheet, stepped}
use Rattle.sheet.specs.Printed.{printed_from, printed_after, printed_lines}
use Rattle.sheet_stream.specs.Left.{first, left, SheetPlaysRight, SheetBreaksOffRight}
use Rattle.sheet_stream.specs.Step.{StaysReady}

-- a line that the reader clipped means what it meant, where all lines above the limit mean the same
clipped-line : {A : Type 0} (f : List ℕ → A) (x : A) → ((l : List ℕ) → max_line < length l → f l ≡ x) → (l : List ℕ) → f (take (max_line + 1) l) ≡ f l
clipped-line {A} f x long l = by_test (ltb max_line (length l)) refl
  where
    by_test : (t : Bool) → ltb max_line (length l) ≡ t → f (take (max_line + 1) l) ≡ f l
    by_test true e =
        let h = ltb-true max_line (length l) e in
        let n : length (take (max_line + 1) l) ≡ max_line + 1 = length-take-le (max_line + 1) l (omega arith) in
        long (take (max_line + 1) l) (omega arith) ∙ sym (long l h)
    by_test false e = let h = ltb-false max_line (length l) e in ap f (take_all (max_line + 1) l (omega arith))

long_begin : (l : List ℕ) → max_line < length l → begin_of l ≡ Err Form
unfolding begin_line
long_begin l h = search rules

long_call : (l : List ℕ) → max_line < length l → call_of_line l ≡ None
unfolding call_of_line
long_call l h = search rules

from-clipped : (k : ℕ) (S : Sheet) (ls : List (List ℕ)) → printed_from k S (clipped max_line ls) ≡ printed_from k S ls
from-clipped k S [] = refl
from-clipped k S (l ∷ ls) = rw (clipped-line call_of_line None long_call l, from-clipped (suc k) (stepped k S (call_of_line l)).sheet ls)

after-clipped : (x : Result Begin BadBegin) (ls : List (List ℕ)) → printed_after x (clipped max_line ls) ≡ printed_after x ls
after-clipped (Err Form) ls = refl
after-clipped (Err Cursor) ls = refl
after-clipped (Ok b) ls = from-clipped 2 (fresh_sheet (replicate b.size 0) b.cursor (record { flags = b.flags })) ls

pub lines-clipped : (ls : List (List ℕ)) → printed_lines (clipped max_line ls) ≡ printed_lines ls
lines-clipped [] = refl
lines-clipped (l ∷ ls) = rw (clipped-line begin_of (Err Form) long_begin l) (after-clipped (begin_of l) ls)

pub sheet_plays_right : SheetPlaysRight
sheet_plays_right ins outs b p d = plays_right left max_line first ins outs b p d ∙ lines-clipped (lines_of (joined ins))

pub sheet-breaks_off_right : SheetBreaksOffRight
sheet-breaks_off_right ins outs b p rest m = breaks_off_right left max_line first ins outs b p rest m ∙ lines-clipped (lines_of (joined ins ++ rest))

-- what is ready stays so
pub stays-ready : StaysReady
stays-ready h r waits b out b' out' R o n lb lo k = search rules
