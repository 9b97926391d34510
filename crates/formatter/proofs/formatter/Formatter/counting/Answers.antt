use Rattle.formatter.proofs.formatter.Formatter.counting.Goals as goal

pub returns : goal.returns
returns c = λ b. rw (c.new.ensures b, c.counting.ensures)
