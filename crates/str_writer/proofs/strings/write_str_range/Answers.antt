use mathlib.Core.Path.{refl, ◌∙◌}
use Rattle.formatting.specs.Flags.{default_flags}
use Rattle.str_writer.specs.Value.{str, display}
use Rattle.str_writer.proofs.Judging.{handed, met, write-met, judged-met, judged-cut, str-emit}
use Rattle.str_writer.proofs.strings.write_str_range.Goals as goal

pub returns-in_err-judge_str : goal.returns-in_err-judge_str
returns-in_err-judge_str c = let a = c.args in
    let v = str display a.s.now a.range in
    rw (handed _ _ c.from_residual.ensures.1) (write-met a.buf.now a.at v default_flags _ (judged-met a.buf.now a.at v _ (met _ _ (c.in_err-judge_str.ensures a.buf.now refl display a.range))))

pub returns-in_err-range_fault : goal.returns-in_err-range_fault
returns-in_err-range_fault c = let a = c.args in
    let v = str display a.s.now a.range in
    let j = met _ _ (c.in_ok-judge_str.ensures a.buf.now refl display a.range) in
    rw (handed _ _ c.from_residual-in_err-range_fault.ensures.1) (write-met a.buf.now a.at v default_flags _ (judged-cut a.buf.now a.at v j ∙ met _ _ (c.in_err-range_fault.ensures display)))

pub returns : goal.returns
returns c = let a = c.args in
    let v = str display a.s.now a.range in
    let j = met _ _ (c.in_ok-judge_str.ensures a.buf.now refl display a.range) in
    c.put_part.ensures ∙ str-emit default_flags a.buf.now a.at display a.s.now a.range (judged-cut a.buf.now a.at v j ∙ met _ _ (c.in_ok-range_fault.ensures display))
