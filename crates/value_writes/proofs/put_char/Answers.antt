use mathlib.Core.Path.{◌∙◌}
use Rattle.std.proofs.lemmas.Result.{err_from_is_err_and}
use Rattle.str_writer.specs.Value.{char, display, debug, text_of}
use Rattle.str_writer.proofs.Values.{char_uncut}
use Rattle.value_writes.specs.Values.{form_of}
use Rattle.value_writes.proofs.ValueLaws.{met, char_counted, char_met, emits_len, input-refused, uncut-emitted, emits}
use Rattle.value_writes.proofs.put_char.Goals as goal

pub returns-in_err-char_fault : goal.returns-in_err-char_fault
returns-in_err-char_fault c f = let a = c.args in
    let p = err_from_is_err_and c.from_residual-in_err-char_fault.result c.from_residual-in_err-char_fault.ensures.1 in
    rw (p.1, p.2) (input-refused a.writer.now a.buf.now f (char (form_of a.form) a.c) _ (met _ (c.in_err-char_fault.ensures (form_of a.form))))

pub returns-in_err-char_len : goal.returns-in_err-char_len
returns-in_err-char_len c f = let a = c.args in
    let p = err_from_is_err_and c.from_residual.result c.from_residual.ensures.1 in
    rw (p.1, p.2) (input-refused a.writer.now a.buf.now f (char (form_of a.form) a.c) _ (char_met (form_of a.form) a.c _ _ (c.in_err-char_len.ensures f)))

pub returns-then-is_counting : goal.returns-then-is_counting
returns-then-is_counting c f = let a = c.args in
    let v = char (form_of a.form) a.c in
    let k = char_counted (form_of a.form) a.c _ _ (c.in_ok-char_len.ensures f) in
    c.add_len.ensures a.buf.now
    ∙ emits_len a.writer.now c.is_counting.ensures c.if-is_counting.true a.buf.now (text_of f v) k.0
    ∙ uncut-emitted a.writer.now a.buf.now f v (char_uncut (form_of a.form) a.c) k.1

pub returns-in-Display : goal.returns-in-Display
unfolding text_of
returns-in-Display c f = let a = c.args in
    let v = char display a.c in
    rw c.in-Display.is (c.advance.ensures _
    ∙ emits a.writer.now c.is_counting.ensures c.if-is_counting.false a.buf.now (text_of f v) _ c.put_char.ensures
    ∙ uncut-emitted a.writer.now a.buf.now f v (char_uncut display a.c) (met _ (c.in_ok-char_fault.ensures display)))

pub returns-in-Debug : goal.returns-in-Debug
unfolding text_of
returns-in-Debug c f = let a = c.args in
    let v = char debug a.c in
    rw c.in-Debug.is (c.advance-in-Debug.ensures _
    ∙ emits a.writer.now c.is_counting.ensures c.if-is_counting.false a.buf.now (text_of f v) _ c.put_char_debug.ensures
    ∙ uncut-emitted a.writer.now a.buf.now f v (char_uncut debug a.c) (met _ (c.in_ok-char_fault.ensures debug)))
