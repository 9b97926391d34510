use Rattle.formatter.proofs.formatter.Formatter.new.Goals as goal

pub returns : goal.returns
returns c = λ b. c.new.ensures _ b
