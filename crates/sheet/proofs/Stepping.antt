-- A line answered: both runs advanced by a call, or none.
use borrow.Author.Rules.{rules}
use Rattle.std.proofs.lemmas.List.{nil_from_length}
use mathlib.Core.Bool.{true}
use mathlib.Core.Path.{◌≡◌}
use mathlib.Core.List.{List, []}
use Prim.Native.Nat.{ℕ, ◌≤◌}
use lib.ListN.{length}
use Rattle.std.specs.Prelude.{Option, Some}
use Rattle.error.specs.Answer.{Answer, answer_number}
use Rattle.calls.specs.Call.{Call}
use Rattle.calls.specs.Model.{number_in, step}
use Rattle.str_writer.specs.Write.{Written, outcome, put}
use Rattle.writer_backend.specs.declared.pieces.WriterBackend.{WriterBackend}
use Rattle.writer_backend.specs.Output.{mode_of}
use Rattle.formatter.specs.View.{view_f, view_f_out}
use Rattle.sheet.specs.declared.Sheet as code
use Rattle.sheet.specs.Sheet.{Sheet, row_text, stepped}
use Rattle.sheet.specs.SheetView.{sheet_of, Step, stepped_of, stepping, LineAnswer, answering}

-- the number of a mode is its total or cursor
pub number_in_lem : (m : WriterBackend) → number_in (mode_of m) ≡ m.number
number_in_lem m = search rules

-- both runs play the same call
module _ (k : ℕ) (S T : code.Sheet) (b n' b' : List ℕ) (x y : Answer) (c : Call) where
  pub both : view_f_out x T.counted n' ≡ step (view_f S.counted []) c → length n' ≡ 0 → view_f_out y T.written b' ≡ step (view_f S.written b) c
      → stepped_of T (record { line = k; counting_answer = answer_number x; total = T.counted.head.writer.number; writing_answer = answer_number y; cursor = T.written.head.writer.number }) b' ≡ stepping k (sheet_of S b) c
  both p z q =
      let a : view_f_out x T.counted [] ≡ step (view_f S.counted []) c = rw (nil_from_length n' z) at p in
      rw (← a, ← q, number_in_lem T.counted.head.writer, number_in_lem T.written.head.writer)

module _ (k : ℕ) (S : Sheet) (o : Option Call) (out : List ℕ) (at : ℕ) (w : Written) (out' : List ℕ) where
  pub answer-call : (c : Call) (t : Step) → o ≡ Some c → t ≡ stepping k S c → outcome w out' ≡ put out at (row_text t.row) → ◌≡◌ {A = LineAnswer} (record { is_call = true; sheet = t.sheet; printed = outcome w out' }) (answering k S o out at)
  answer-call c t e q p = rw (p, q, e)

-- what a line prints is short
module _ (k : ℕ) (S : Sheet) (o : Option Call) where
  pub short-call : (c : Call) (t : Step) → o ≡ Some c → t ≡ stepping k S c → length (row_text t.row) ≤ 105 → length (stepped k S o).text ≤ 105
  short-call c t e q h = rw e (rw q at h)
