use Rattle.std.proofs.Common.{ap, sym}
use Rattle.sheet_line.specs.Line.{call_of_line}
use Rattle.sheet_line.specs.Reading.{Reading}
use Rattle.sheet.specs.SheetView.{sheet_of, stepped_of}
use Rattle.sheet.proofs.Stepping.{answer-call, short-call}
use Rattle.sheet.proofs.Sheet.answer_line.Goals as goal

pub returns-clause-out_after : goal.returns-clause-out_after
returns-clause-out_after c = let a = c.args in
    let e = ap (λ (r : Reading). r.call) c.in-Some.ensures in
    let q = rw c.slice_up_to_len.ensures at c.step-row.ensures in
    answer-call a.line (sheet_of a.self.now a.buf.now) (call_of_line a.l.now) a.out.now a.at _ _ _ (stepped_of c.step-row.new.self c.step-row.result _) (sym e) q c.put_row.ensures.out_after

pub returns-clause-l_len_bound : goal.returns-clause-l_len_bound
returns-clause-l_len_bound c = let a = c.args in
    let e = ap (λ (r : Reading). r.call) c.in-Some.ensures in
    let q = rw c.slice_up_to_len.ensures at c.step-row.ensures in
    short-call a.line (sheet_of a.self.now a.buf.now) (call_of_line a.l.now) _ (stepped_of c.step-row.new.self c.step-row.result _) (sym e) q c.put_row.ensures.row_len_bound
