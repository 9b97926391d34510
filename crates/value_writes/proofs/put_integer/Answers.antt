use mathlib.Core.Path.{◌∙◌}
use Rattle.value_writes.specs.Values.{text_of_parts}
use Rattle.value_writes.proofs.ValueLaws.{emits_len, emits}
use Rattle.value_writes.proofs.put_integer.Goals as goal

pub returns-then-is_counting : goal.returns-then-is_counting
returns-then-is_counting c = let a = c.args in
    c.add_len.ensures a.buf.now ∙ emits_len a.writer.now c.is_counting.ensures c.if-is_counting.true a.buf.now (text_of_parts a.p) c.debug_len.ensures

pub returns : goal.returns
returns c = let a = c.args in
    c.advance.ensures _ ∙ emits a.writer.now c.is_counting.ensures c.if-is_counting.false a.buf.now (text_of_parts a.p) _ c.write_debug_parts.ensures.buf_after
