use mathlib.Core.Path.{refl, ◌∙◌}
use Rattle.str_writer.specs.Value.{ascii}
use Rattle.str_writer.proofs.Values.{ascii_uncut}
use Rattle.str_writer.proofs.Judging.{met, judged-input}
use Rattle.str_writer.proofs.faults.judge_ascii.Goals as goal

pub returns : goal.returns
returns c = λ b e m r. c.ascii_fault.ensures m r ∙ judged-input b c.args.at (ascii m c.args.s.now r) _ (rw (ascii_uncut m c.args.s.now r) refl) (met _ _ (c.in_ok-cursor_fault.ensures b e))
