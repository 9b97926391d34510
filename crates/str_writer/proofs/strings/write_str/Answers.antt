use mathlib.Core.Path.{refl, ◌∙◌}
use Rattle.formatting.specs.Flags.{default_flags}
use Rattle.str_writer.specs.Value.{str, display, whole}
use Rattle.str_writer.proofs.Judging.{handed, met, write-met, judged-met, whole-emit}
use Rattle.str_writer.proofs.strings.write_str.Goals as goal

pub returns-in_err-judge_str : goal.returns-in_err-judge_str
returns-in_err-judge_str c = let a = c.args in
    let v = str display a.s.now (whole a.s.now) in
    rw (handed _ _ c.from_residual.ensures.1) (write-met a.buf.now a.at v default_flags _ (judged-met a.buf.now a.at v _ (met _ _ (c.in_err-judge_str.ensures a.buf.now refl display _))))

pub returns : goal.returns
returns c = let a = c.args in
    c.put.ensures ∙ whole-emit default_flags a.buf.now a.at display a.s.now (met _ _ (c.in_ok-judge_str.ensures a.buf.now refl display _))
