-- What is written, and what then remains, is what is to be printed for what is read.
use Rattle.sheet_stream.specs.Step.{at_of}
use Rattle.sheet_stream.proofs.Going.{Going}
use Rattle.sheet_stream.proofs.program.play.Given as goal

abbrev pub invariant-loop : goal.invariant-loop
invariant-loop g l = Going (g.R.Read.remaining l.fn.input) (g.R.Read.remaining l.input) (g.W.Write.contents l.fn.output) (g.W.Write.contents l.output) (at_of l.stream l.space l.buf l.out)
