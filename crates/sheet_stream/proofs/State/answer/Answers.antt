use Rattle.std.proofs.Common.{rules, arith, ◌≡◌, ◌∙◌, length}
use lib.Seq.{length-take-le}
use Rattle.sheet_stream.proofs.Laws.{goes-on, answers-later, answers-last}
use Rattle.sheet_stream.proofs.State.answer.Goals.{After-answer_line-answered}
use Rattle.sheet_stream.proofs.State.answer.Goals as goal

-- the run's part of the buffer keeps its length
part_length : (c : After-answer_line-answered) → length c.answer_line-answered.new.buf ≡ c.in-Later.size
part_length c =
    let s = rw c.in-Later.is at c.requires.0.size in
    let l = c.requires.0.lends in
    c.answer_line-answered.auto.buf ∙ length-take-le c.in-Later.size c.args.buf.now (omega arith)

pub returns-then-not-answered-clause-answers : goal.returns-then-not-answered-clause-answers
returns-then-not-answered-clause-answers c =
    let a = c.answer_line-answered in
    rw (c.in-Later.is, ← goes-on c.args.at a.result.print c.unwrap_or-end.ensures) (answers-last c.in-Later.line c.in-Later.size c.in-Later.sheet a.new.self c.args.buf.now a.new.buf a.result _ _ _ _ a.ensures.out_after a.ensures.l_len_bound (part_length (goal.at.returns-then-not-answered-clause-answers c).After-answer_line-answered) c.requires.1 (search rules))

pub returns-else-not-answered-clause-answers : goal.returns-else-not-answered-clause-answers
returns-else-not-answered-clause-answers c =
    let a = c.answer_line-answered in
    rw (c.in-Later.is, ← goes-on c.args.at a.result.print c.unwrap_or-end.ensures) (answers-later c.in-Later.line c.in-Later.size c.in-Later.sheet a.new.self c.args.buf.now a.new.buf a.result _ _ _ _ a.ensures.out_after a.ensures.l_len_bound (part_length (goal.at.returns-else-not-answered-clause-answers c).After-answer_line-answered) c.requires.1 (search rules))
