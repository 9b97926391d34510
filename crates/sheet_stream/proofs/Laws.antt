-- Laws of a sheet's stages, and of what is printed behind what was printed.
use Rattle.std.proofs.lemmas.Grind.{common_steps}
use borrow.Author.Rules.{rules}
use mathlib.Core.Bool.{Bool, true, false, cond}
use mathlib.Core.Path.{◌≡◌, sym, ap, ◌∙◌}
use mathlib.Core.List.{List, [], ◌∷◌, ◌++◌, append_assoc, append-nil}
use Rattle.std.specs.Prelude.{Result, Ok, Err}
use Prim.Native.Nat.{ℕ, suc, ◌+◌, ◌*◌, ◌≤◌}
use native.Mathlib.Omega.{arith}
use lib.ListN.{length, take, drop, replicate, length-append}
use lib.Seq.{take_at, length-take-le}
use Rattle.std.specs.Result.{result_unwrap_or}
use Rattle.error.specs.declared.Error.{Error}
use Rattle.str_writer.specs.Write.{Written, written, Outcome, outcome, splice, put}
use Rattle.fields.proofs.Cells.{put-fits}
use Rattle.sheet_line.specs.declared.begin.Begin.{Begin}
use Rattle.sheet_line.specs.declared.begin.BadBegin.TheVariants.{Form, Cursor}
use Rattle.sheet_line.specs.Begin.{begin_line, begin_of}
use Rattle.formatting.specs.declared.flags.FormattingFlags.{FormattingFlags}
use Rattle.sheet_line.specs.Line.{call_of_line}
use Rattle.sheet.specs.Sheet.{Sheet, fresh_sheet, bad_text, refused_text, end_text, stepped}
use Rattle.sheet.specs.SheetView.{sheet_of, LineAnswer, answered, answering}
use Rattle.sheet.specs.declared.Sheet as code
use Rattle.sheet.specs.declared.Answered.{Answered}
use Rattle.sheet.specs.Printed.{printed_from}
use Rattle.sheet_stream.specs.Left.{Stage, first, later, over, left, stage_of, Answers}
use Rattle.sheet_stream.specs.declared.State.TheVariants.{Later}

-- a text that fits is printed behind what was printed
module _ (b : List ℕ) (at : ℕ) (t : List ℕ) (w : Written) (c : List ℕ) (e : outcome w c ≡ put b at t) (h : at + length t ≤ length b) where
  pub text-end : w.at ≡ at + length t
  text-end = ap (λ (o : Outcome). o.written.at) (e ∙ put-fits b at t h)

  pub text-told : take w.at c ≡ take at b ++ t
  text-told =
      let u : c ≡ splice b at t = ap (λ (o : Outcome). o.bytes) (e ∙ put-fits b at t h) in
      let n : length (take at b ++ t) ≡ at + length t = rw (length-append, length-take-le at b (omega arith)) in
      rw (text-end, u) (take_at (take at b ++ t) (drop (at + length t) b) (at + length t) n)

-- a caller that goes on where nothing was printed goes on at the cursor that it had
pub goes-on : (at : ℕ) (r : Result ℕ Error) {n : ℕ} → n ≡ result_unwrap_or r at → (written at r).at ≡ n
goes-on at (Ok n) e = sym e
goes-on at (Err x) e = sym e

-- a line that ends the run
pub answers-over : (S : Stage) (l out after : List ℕ) (at : ℕ) (t : List ℕ) (w : Written) → ((ls : List (List ℕ)) → left S (l ∷ ls) ≡ t) → outcome w after ≡ put out at t → length t ≤ 105 → at + 105 ≤ length out → Answers S over l out after at w.at
answers-over S l out after at t w e p h k =
    let n = text-end out at t w after p (omega arith) in
    record { prints = λ ls. rw (e ls, append-nil (take w.at after)) (text-told out at t w after p (omega arith)); short = omega arith }

pub begin_bad : (l : List ℕ) → begin_of l ≡ Err Form → (ls : List (List ℕ)) → left first (l ∷ ls) ≡ bad_text 1
begin_bad l e ls = rw e

pub begin-refused : (l : List ℕ) → begin_of l ≡ Err Cursor → (ls : List (List ℕ)) → left first (l ∷ ls) ≡ refused_text
begin-refused l e ls = rw e

-- a line that begins the runs
pub answers-fresh : (l out : List ℕ) (at n p : ℕ) (f : FormattingFlags) (T : Stage) → begin_of l ≡ Ok (record { size = n; cursor = p; flags = f }) → T ≡ later 2 (fresh_sheet (replicate n 0) p (record { flags = f })) → Answers first T l out out at at
answers-fresh l out at n p f T e q = search rules

-- `begin` has n at most 4,096
pub fresh-size : (b : Begin) (l : List ℕ) → begin_of l ≡ Ok b → b.size ≤ 4096
unfolding begin_line
fresh-size b l e = search rules

-- the last line of a run that has begun
module _ (k : ℕ) (S : code.Sheet) (b out : List ℕ) (at n : ℕ) (after : List ℕ) (v : Written) (h : n ≤ 4096) (m : length (end_text (sheet_of S (take n b))) ≤ 47 + 2 * length (take n b))
    (p : outcome v after ≡ put out at (end_text (sheet_of S (take n b)))) (r : at + 8239 ≤ length out) where
  end_fits : at + length (end_text (sheet_of S (take n b))) ≤ at + 8239
  end_fits = grind (arith, common_steps)

  pub end_short : v.at ≤ at + 8239
  end_short = let f = end_fits in let g = text-end out at (end_text (sheet_of S (take n b))) v after p (omega arith) in omega arith

  pub end_later : take v.at after ≡ take at out ++ left (stage_of (Later k n S) b) []
  end_later = let g = end_fits in text-told out at (end_text (sheet_of S (take n b))) v after p (omega arith)

-- a line of a run that has begun
left-next : (t : Bool) (k : ℕ) (S : Sheet) (ls : List (List ℕ)) → left (cond t (later (k + 1) S) over) ls ≡ cond t (printed_from (suc k) S ls) []
left-next t k S ls = search rules

module _ (k : ℕ) (S : Sheet) (l out after : List ℕ) (at : ℕ) (t : Bool) (S' : Sheet) (v : Written) where
  answers-line : ◌≡◌ {A = LineAnswer} (record { is_call = t; sheet = S'; printed = outcome v after }) (answering k S (call_of_line l) out at)
      → length (stepped k S (call_of_line l)).text ≤ 105 → at + 105 ≤ length out → Answers (later k S) (cond t (later (k + 1) S') over) l out after at v.at
  answers-line e h r =
      let x = (stepped k S (call_of_line l)).text in
      let i : t ≡ (stepped k S (call_of_line l)).is_call = ap (λ (a : LineAnswer). a.is_call) e in
      let j : S' ≡ (stepped k S (call_of_line l)).sheet = ap (λ (a : LineAnswer). a.sheet) e in
      let p : outcome v after ≡ put out at x = ap (λ (a : LineAnswer). a.printed) e in
      let n = text-end out at x v after p (omega arith) in
      record { prints = λ ls. rw (left-next t k S' ls, text-told out at x v after p (omega arith), i, j, append_assoc); short = omega arith }

-- the same, of the part of a buffer that is the run's
module _ (k n : ℕ) (S S' : code.Sheet) (b x : List ℕ) (r : Answered) (l out after : List ℕ) (at : ℕ) (f : answered at r S' x after ≡ answering k (sheet_of S (take n b)) (call_of_line l) out at)
    (h : length (stepped k (sheet_of S (take n b)) (call_of_line l)).text ≤ 105) (q : length x ≡ n) (v : at + 105 ≤ length out) where
  answers-part : Answers (stage_of (Later k n S) b) (cond r.is_call (stage_of (Later (k + 1) n S') (x ++ drop n b)) over) l out after at (written at r.print).at
  answers-part = rw (take_at x (drop n b) n q) (answers-line k (sheet_of S (take n b)) l out after at r.is_call (sheet_of S' x) (written at r.print) f h v)

  pub answers-later : r.is_call ≡ true → Answers (stage_of (Later k n S) b) (stage_of (Later (k + 1) n S') (x ++ drop n b)) l out after at (written at r.print).at
  answers-later i = rw i at answers-part

  pub answers-last : r.is_call ≡ false → Answers (stage_of (Later k n S) b) over l out after at (written at r.print).at
  answers-last i = rw i at answers-part
