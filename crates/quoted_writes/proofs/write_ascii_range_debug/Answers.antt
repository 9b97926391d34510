use mathlib.Core.Path.{refl, ◌∙◌}
use Rattle.formatting.specs.Flags.{default_flags}
use Rattle.str_writer.specs.Value.{ascii, debug}
use Rattle.str_writer.proofs.Judging.{handed, met, write-met, ascii-emit}
use Rattle.quoted_writes.proofs.write_ascii_range_debug.Goals as goal

pub returns-in_err-judge_ascii : goal.returns-in_err-judge_ascii
returns-in_err-judge_ascii c = let a = c.args in
    rw (handed _ _ c.from_residual.ensures.1) (write-met a.buf.now a.at (ascii debug a.s.now a.range) default_flags _ (met _ _ (c.in_err-judge_ascii.ensures a.buf.now refl debug a.range)))

pub returns : goal.returns
returns c = let a = c.args in
    c.put_quoted_part.ensures ∙ ascii-emit default_flags a.buf.now a.at debug a.s.now a.range (met _ _ (c.in_ok-judge_ascii.ensures a.buf.now refl debug a.range))
