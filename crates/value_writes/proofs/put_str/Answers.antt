use mathlib.Core.Path.{◌∙◌}
use Rattle.std.proofs.lemmas.Result.{err_from_is_err_and}
use Rattle.str_writer.specs.Value.{str, text_of}
use Rattle.value_writes.specs.Values.{form_of}
use Rattle.value_writes.proofs.ValueLaws.{judged-refused, judged-emitted}
use Rattle.value_writes.proofs.put_str.Goals as goal

pub returns-in_err-judge_str : goal.returns-in_err-judge_str
returns-in_err-judge_str c f = let a = c.args in
    let p = err_from_is_err_and c.from_residual.result c.from_residual.ensures.1 in
    rw (p.1, p.2) (judged-refused a.writer.now a.buf.now f (str (form_of a.form) a.s.now a.range) _ (c.in_err-judge_str.ensures (form_of a.form)))

pub returns : goal.returns
unfolding text_of
returns c f = let a = c.args in
    c.put_string.ensures ∙ judged-emitted a.writer.now a.buf.now f (str (form_of a.form) a.s.now a.range) (c.in_ok-judge_str.ensures (form_of a.form))
