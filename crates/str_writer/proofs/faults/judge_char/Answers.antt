use mathlib.Core.Path.{refl, ◌∙◌}
use Rattle.str_writer.specs.Value.{char}
use Rattle.str_writer.proofs.Values.{char_uncut}
use Rattle.str_writer.proofs.Judging.{met, judged-input}
use Rattle.str_writer.proofs.faults.judge_char.Goals as goal

pub returns : goal.returns
returns c = λ b e m. c.char_fault.ensures m ∙ judged-input b c.args.at (char m c.args.c) _ (rw (char_uncut m c.args.c) refl) (met _ _ (c.in_ok-cursor_fault.ensures b e))
