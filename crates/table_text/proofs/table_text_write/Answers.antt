use Rattle.table_text.proofs.table_text_write.Goals as goal

pub returns-clause-writes_as_counted : goal.returns-clause-writes_as_counted
returns-clause-writes_as_counted c = rw (c.answer_number.ensures, c.answer.ensures) c.write-r.ensures.writes_as_counted
