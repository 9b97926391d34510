use Rattle.std.proofs.Common.{rules}
use Rattle.line_input.proofs.Going.{going-begins, going-answers, going-reads}
use Rattle.line_input.proofs.program.answer_lines.Goals as goal

pub loop-init : goal.loop-init
loop-init g c = going-begins _ _ _ _ _ _ c.new-reader.ensures

pub loop-preserved-in-Some : goal.loop-preserved-in-Some
loop-preserved-in-Some g c = going-answers _ _ _ _ _ _ _ _ _ _ c.loop.invariant _ c.in-Some.ensures _ _ c.answer-end.ensures _ (search rules)

pub loop-preserved : goal.loop-preserved
loop-preserved g c = going-reads _ _ _ _ _ _ _ _ _ _ c.loop.invariant c.in_default.ensures (search rules) _ _ _ c.read_more.ensures.0 c.read_more.ensures.1
