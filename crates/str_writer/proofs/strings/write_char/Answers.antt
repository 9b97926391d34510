use mathlib.Core.Path.{refl, ◌∙◌}
use Rattle.formatting.specs.Flags.{default_flags}
use Rattle.str_writer.specs.Value.{char, display}
use Rattle.str_writer.proofs.Judging.{handed, met, write-met, char-emit}
use Rattle.str_writer.proofs.strings.write_char.Goals as goal

pub returns-in_err-judge_char : goal.returns-in_err-judge_char
returns-in_err-judge_char c = let a = c.args in
    rw (handed _ _ c.from_residual.ensures.1) (write-met a.buf.now a.at (char display a.c) default_flags _ (met _ _ (c.in_err-judge_char.ensures a.buf.now refl display)))

pub returns : goal.returns
returns c = let a = c.args in
    c.put_char.ensures ∙ char-emit default_flags a.buf.now a.at a.c (met _ _ (c.in_ok-judge_char.ensures a.buf.now refl display))
