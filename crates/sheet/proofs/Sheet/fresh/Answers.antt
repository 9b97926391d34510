use Rattle.sheet.proofs.Sheet.fresh.Goals as goal

pub returns : goal.returns
returns c = λ b. rw (c.counting.ensures, c.new.ensures, c.writing.ensures)
