use mathlib.Core.Path.{refl, ◌∙◌}
use mathlib.Core.List.{[]}
use Rattle.str_writer.specs.Value.{str, input_fault}
use Rattle.str_writer.proofs.Judging.{met, judged-input}
use Rattle.str_writer.proofs.faults.judge_str.Goals as goal

pub returns : goal.returns
unfolding input_fault
returns c = λ b e m r. c.str_fault.ensures ∙ judged-input b c.args.at (str m c.args.s.now r) [] refl (met _ _ (c.in_ok-cursor_fault.ensures b e))
