use Rattle.std.proofs.Common.{rules}
use Rattle.sheet.proofs.Stepping.{both}
use Rattle.sheet.proofs.Sheet.step.Goals as goal

pub returns : goal.returns
returns c = let a = c.args in
    rw (c.answer_number-counting_answer.ensures, c.answer_number-writing_answer.ensures) (both a.line a.self.now (record { counted = c.call.new.self; written = c.call-2.new.self }) a.buf.now _ _ _ _ _ c.call.ensures (search (rules, c.call.auto.buf)) c.call-2.ensures)
