use mathlib.Core.Path.{refl, sym, ap, ◌∙◌}
use Rattle.std.proofs.lemmas.Result.{err_from_is_err_and}
use Rattle.str_writer.specs.Value.{char, str, ascii, repeated, text_of, input_fault, cut_fault}
use Rattle.error.specs.Answer.{fault_number}
use Rattle.value_writes.specs.Values.{form_of, integer_of, value_of}
use Rattle.value_writes.proofs.ValueLaws.{value_past, value_within, uncut-emitted, integer_input, integer_uncut}
use Rattle.value_writes.proofs.put_value.Goals as goal

pub returns-in_err-judge : goal.returns-in_err-judge
returns-in_err-judge c = let a = c.args in
    let p = err_from_is_err_and c.from_residual.result c.from_residual.ensures.1 in
    rw (p.1, p.2) (value_past a.writer.now a.buf.now a.flags (value_of a.v a.s.now) _ c.in_err-judge.ensures)

pub returns-in-Int : goal.returns-in-Int
returns-in-Int c = let a = c.args in
    let m = form_of c.in-Int.form in
    let x = c.in-Int.x in
    rw c.in-Int.is (c.put_integer.ensures ∙ rw (← c.parts_of.ensures)
    (uncut-emitted a.writer.now a.buf.now a.flags (integer_of m x) (integer_uncut m x) (sym (ap fault_number (integer_input m x)))
    ∙ value_within a.writer.now a.buf.now a.flags (integer_of m x) c.in_ok-judge.ensures))

pub returns-in-Char : goal.returns-in-Char
returns-in-Char c = let a = c.args in
    rw c.in-Char.is (c.put_char.ensures a.flags ∙ value_within a.writer.now a.buf.now a.flags (char (form_of c.in-Char.form) c.in-Char.c) c.in_ok-judge.ensures)

pub returns-in-Str : goal.returns-in-Str
returns-in-Str c = let a = c.args in
    rw c.in-Str.is (c.put_str.ensures a.flags ∙ value_within a.writer.now a.buf.now a.flags (str (form_of c.in-Str.form) a.s.now c.in-Str.range) c.in_ok-judge.ensures)

pub returns-in-Ascii : goal.returns-in-Ascii
returns-in-Ascii c = let a = c.args in
    rw c.in-Ascii.is (c.put_ascii.ensures a.flags ∙ value_within a.writer.now a.buf.now a.flags (ascii (form_of c.in-Ascii.form) a.s.now c.in-Ascii.range) c.in_ok-judge.ensures)

pub returns-in-Repeated : goal.returns-in-Repeated
unfolding text_of input_fault cut_fault
returns-in-Repeated c = let a = c.args in
    let v = repeated c.in-Repeated.c c.in-Repeated.n in
    rw c.in-Repeated.is (c.put_repeated.ensures ∙ uncut-emitted a.writer.now a.buf.now a.flags v refl refl ∙ value_within a.writer.now a.buf.now a.flags v c.in_ok-judge.ensures)
