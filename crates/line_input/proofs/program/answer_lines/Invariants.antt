-- The lines that were answered, and those that are still to be taken, are the lines of what was read.
use Rattle.line_input.proofs.Going.{Going}
use Rattle.line_input.proofs.program.answer_lines.Given as goal

abbrev pub invariant-loop : goal.invariant-loop
invariant-loop g l = Going g.P.LineProgram.gives (g.R.Read.remaining l.fn.input) (g.R.Read.remaining l.input) (g.W.Write.contents l.fn.output) (g.W.Write.contents l.output) l.fn.program l.program l.reader l.space
