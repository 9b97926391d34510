use mathlib.Core.Path.{refl, ◌∙◌}
use Rattle.formatting.specs.Flags.{default_flags}
use Rattle.str_writer.specs.Value.{char, debug}
use Rattle.str_writer.proofs.Judging.{handed, met, write-met, char-emit-debug}
use Rattle.str_writer.proofs.strings.write_char_debug.Goals as goal

pub returns-in_err-judge_char : goal.returns-in_err-judge_char
returns-in_err-judge_char c = let a = c.args in
    rw (handed _ _ c.from_residual.ensures.1) (write-met a.buf.now a.at (char debug a.c) default_flags _ (met _ _ (c.in_err-judge_char.ensures a.buf.now refl debug)))

pub returns : goal.returns
returns c = let a = c.args in
    c.put_char_debug.ensures ∙ char-emit-debug default_flags a.buf.now a.at a.c (met _ _ (c.in_ok-judge_char.ensures a.buf.now refl debug))
