use mathlib.Core.Path.{◌∙◌}
use Rattle.std.proofs.lemmas.Result.{err_from_is_err_and}
use Rattle.str_writer.specs.Value.{ascii, text_of}
use Rattle.str_writer.proofs.Values.{ascii_uncut}
use Rattle.value_writes.specs.Values.{form_of}
use Rattle.value_writes.proofs.ValueLaws.{met, input-refused, uncut-emitted}
use Rattle.value_writes.proofs.put_ascii.Goals as goal

pub returns-in_err-ascii_fault : goal.returns-in_err-ascii_fault
returns-in_err-ascii_fault c f = let a = c.args in
    let p = err_from_is_err_and c.from_residual.result c.from_residual.ensures.1 in
    rw (p.1, p.2) (input-refused a.writer.now a.buf.now f (ascii (form_of a.form) a.s.now a.range) _ (met _ (c.in_err-ascii_fault.ensures (form_of a.form) a.range)))

pub returns : goal.returns
unfolding text_of
returns c f = let a = c.args in
    c.put_string.ensures
    ∙ uncut-emitted a.writer.now a.buf.now f (ascii (form_of a.form) a.s.now a.range) (ascii_uncut (form_of a.form) a.s.now a.range) (met _ (c.in_ok-ascii_fault.ensures (form_of a.form) a.range))
