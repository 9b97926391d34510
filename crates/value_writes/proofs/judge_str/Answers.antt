use mathlib.Core.Path.{◌∙◌}
use Rattle.std.proofs.lemmas.Result.{err_from_is_err_and}
use Rattle.str_writer.specs.Value.{str, input_fault}
use Rattle.writer_backend.specs.Output.{mode_of}
use Rattle.writer_backend.proofs.Output.{counts, writes}
use Rattle.value_writes.proofs.ValueLaws.{met, judged_input, judged_counting, judged_writing}
use Rattle.value_writes.proofs.judge_str.Goals as goal

pub returns-in_err-str_fault : goal.returns-in_err-str_fault
unfolding input_fault
returns-in_err-str_fault c form = let a = c.args in
    let p = err_from_is_err_and c.from_residual.result c.from_residual.ensures.1 in
    rw (p.1, p.2) (judged_input (mode_of a.writer) (str form a.s.now a.range) _ (met _ c.in_err-str_fault.ensures))

pub returns-then-is_counting : goal.returns-then-is_counting
unfolding input_fault
returns-then-is_counting c form = let a = c.args in
    judged_counting (mode_of a.writer) (str form a.s.now a.range) (counts a.writer c.is_counting.ensures c.if-is_counting.true) (met _ c.in_ok-str_fault.ensures)

pub returns : goal.returns
unfolding input_fault
returns c form = let a = c.args in
    met _ (c.range_fault.ensures form)
    ∙ judged_writing (mode_of a.writer) (str form a.s.now a.range) (writes a.writer c.is_counting.ensures c.if-is_counting.false) (met _ c.in_ok-str_fault.ensures)
