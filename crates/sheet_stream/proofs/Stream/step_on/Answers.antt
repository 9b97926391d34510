use Rattle.std.proofs.Common.{rules}
use Rattle.sheet_stream.proofs.Stepping.{step_line, step_past, step_wait, step_end, step_out}
use Rattle.sheet_stream.proofs.Stream.step_on.Goals as goal

pub returns-then-self : goal.returns-then-self
returns-then-self c = step_past c.args.self.now _ _ _ _ c.requires c.if-self.true _ c.in-Some.ensures

pub returns-in-Some : goal.returns-in-Some
returns-in-Some c = step_line c.args.self.now _ _ _ _ c.requires c.if-self.false _ _ _ c.in-Some.ensures _ _ c.answer-self.ensures.answers c.answer-self.ensures.onward

pub returns-then-not-self : goal.returns-then-not-self
returns-then-not-self c = step_wait c.args.self.now _ _ _ _ c.requires c.in_default.ensures c.if-not-self.true

pub returns-then-self-2 : goal.returns-then-self-2
returns-then-self-2 c = step_out c.args.self.now _ _ _ _ c.requires c.if-self-2.true c.in_default.ensures c.if-not-self.false

pub returns : goal.returns
returns c = step_end c.args.self.now _ _ _ _ c.requires c.if-self-2.false _ _ c.in_default.ensures c.if-not-self.false _ (search rules) (search rules)
