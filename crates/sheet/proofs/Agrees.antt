-- Demand 3 on a call sheet, from the theorem about whole lists of calls.
use Rattle.std.proofs.lemmas.List.{take-replicate, drop-replicate}
use borrow.Author.Rules.{rules}
use Rattle.std.specs.Prelude.{Option, Some, Ok}
use mathlib.Core.Path.{◌≡◌, refl, ap, ◌∙◌}
use mathlib.Core.List.{List, [], ◌∷◌, ◌++◌, map, append_assoc}
use Prim.Native.Nat.{ℕ, suc, ◌+◌, ◌≤◌}
use native.Mathlib.Omega.{arith}
use lib.ListN.{length, take, drop, replicate, length-append, length-replicate}
use lib.Seq.{take_at}
use Rattle.calls.specs.Call.{Call}
use Rattle.calls.specs.Model.{number_in, Output, step, run}
use Rattle.agreement.specs.Untouched.{OnlyBetween}
use Rattle.agreement.specs.Agreement.{AllDone, defined_text, Counted, Written}
use Rattle.agreement.proofs.Rest.{rest_untouched, rest-written}
use Rattle.agreement.proofs.Agree.{agree}
use Rattle.sheet_line.specs.declared.begin.Begin.{Begin}
use Rattle.sheet_line.specs.Begin.{begin_line, sized}
use Rattle.sheet_line.specs.Line.{call_of_line}
use Rattle.sheet.specs.Sheet.{Sheet, fresh_sheet, end_text}
use Rattle.sheet.specs.Printed.{printed_from}
use Rattle.sheet.specs.SheetAgreement.{rows_from, sheet_after, rows_text, AllZero, counting_answers, writing_answers, sheet_rows, SheetAgrees, SheetRest}

-- a run that begins has its cursor in the buffer
sized-within : (o : Option Begin) (r : Begin) → sized o ≡ Ok r → r.cursor ≤ r.size
sized-within o r e = search rules

-- both runs of a sheet are runs over its calls
after-counted : (S : Sheet) (cs : List Call) → (sheet_after S cs).counted ≡ (run S.counted cs).state
after-counted S [] = refl
after-counted S (c ∷ cs) = after-counted (record { counted = (step S.counted c).state; written = (step S.written c).state }) cs

after-written : (S : Sheet) (cs : List Call) → (sheet_after S cs).written ≡ (run S.written cs).state
after-written S [] = refl
after-written S (c ∷ cs) = after-written (record { counted = (step S.counted c).state; written = (step S.written c).state }) cs

-- the answers on the rows are those of both runs
zero-done : (k : ℕ) (S : Sheet) (cs : List Call) → AllZero (rows_from k S cs) → AllDone (run S.counted cs).answers × AllDone (run S.written cs).answers
zero-done k S [] z = (tt, tt)
zero-done k S (c ∷ cs) z = let r = zero-done (suc k) _ cs z.2 in ((z.0, r.0), (z.1, r.1))

done-zero : (k : ℕ) (S : Sheet) (cs : List Call) → AllDone (run S.counted cs).answers → AllDone (run S.written cs).answers → AllZero (rows_from k S cs)
done-zero k S [] a b = tt
done-zero k S (c ∷ cs) a b = (a.0, b.0, done-zero (suc k) _ cs a.1 b.1)

counting-rows : (k : ℕ) (S : Sheet) (cs : List Call) → counting_answers (rows_from k S cs) ≡ (run S.counted cs).answers
counting-rows k S [] = refl
counting-rows k S (c ∷ cs) = ap (λ (l : List ℕ). (step S.counted c).answer ∷ l) (counting-rows (suc k) _ cs)

writing-rows : (k : ℕ) (S : Sheet) (cs : List Call) → writing_answers (rows_from k S cs) ≡ (run S.written cs).answers
writing-rows k S [] = refl
writing-rows k S (c ∷ cs) = ap (λ (l : List ℕ). (step S.written c).answer ∷ l) (writing-rows (suc k) _ cs)

-- where every line is a call, a row is printed for each, then the last line
printed-calls : (k : ℕ) (S : Sheet) (ls : List (List ℕ)) (cs : List Call) → map call_of_line ls ≡ map Some cs
    → printed_from k S ls ≡ rows_text (rows_from k S cs) ++ end_text (sheet_after S cs)
printed-calls k S [] [] e = refl
printed-calls k S [] (c ∷ cs) e = cc
printed-calls k S (l ∷ ls) [] e = cc
printed-calls k S (l ∷ ls) (c ∷ cs) e =
    let h : call_of_line l ≡ Some c = cc in
    let r : map call_of_line ls ≡ map Some cs = cc in
    rw (h, printed-calls (suc k) _ ls cs r, append_assoc)

pub sheet_agrees : SheetAgrees
sheet_agrees input n p S cs O P h =
    record {
      rows = rw (O.lines, O.begins) (printed-calls 2 (fresh_sheet (replicate n 0) p S) O.later cs O.calls);
      exactly = (λ z. fits z, λ k. done-zero 2 both cs C.done (W.exactly.1 (room k)));
      last = λ k. rw (after-counted both cs, after-written both cs, C.output, W.cursor (room k), W.bytes (room k), before (room k));
      counts = rw (counting-rows 2 both cs) C.done;
      total = rw (after-counted both cs, C.output) refl;
      refused = λ k. rw (writing-rows 2 both cs) (W.refused (omega (arith, size)));
      before = rw (after-written both cs) (W.before ∙ take-replicate {X = ℕ} p n 0 inside);
    }
  where
    size : length (replicate {A = ℕ} n 0) ≡ n
    size = length-replicate n 0

    inside : p ≤ n
    inside = sized-within (begin_line O.first) _ O.begins

    both : Sheet
    both = fresh_sheet (replicate n 0) p S

    C : Counted S cs []
    C = (agree S cs P h).0 []

    W : Written S cs (replicate n 0) p
    W = (agree S cs P h).1 (replicate n 0) p (omega (arith, size, inside))

    room : p + length (defined_text S cs) ≤ n → p + length (defined_text S cs) ≤ length (replicate {A = ℕ} n 0)
    room k = omega (arith, size)

    fits : AllZero (sheet_rows n p S cs) → p + length (defined_text S cs) ≤ n
    fits z = let k = W.exactly.0 (zero-done 2 (fresh_sheet (replicate n 0) p S) cs z).1 in omega (arith, size)

    before : p + length (defined_text S cs) ≤ length (replicate {A = ℕ} n 0)
        → take (p + length (defined_text S cs)) (take p (replicate n 0) ++ defined_text S cs ++ drop (p + length (defined_text S cs)) (replicate n 0)) ≡ replicate p 0 ++ defined_text S cs
    before k =
        rw (take-replicate {X = ℕ} p n 0 inside)
        (take_at (replicate p 0 ++ defined_text S cs) (drop (p + length (defined_text S cs)) (replicate n 0)) (p + length (defined_text S cs)) (simp (length-append, length-replicate)))

pub sheet-rest : SheetRest
sheet-rest n p S cs = rw (after-written both cs) (rest, rest.behind ∙ drop-replicate {X = ℕ} (number_in W.mode) n 0)
  where
    both : Sheet
    both = fresh_sheet (replicate n 0) p S

    W : Output
    W = (run both.written cs).state.output

    rest : OnlyBetween (replicate n 0) p W.bytes (number_in W.mode)
    rest = rest-written p (replicate n 0) W.mode W.bytes (rest_untouched both.written cs)
