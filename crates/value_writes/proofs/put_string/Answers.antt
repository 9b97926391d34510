use mathlib.Core.Path.{◌∙◌}
use Rattle.formatting.specs.Escape.{quoted}
use Rattle.utils.specs.Text.{part}
use Rattle.value_writes.proofs.ValueLaws.{emits}
use Rattle.value_writes.proofs.put_string.Goals as goal

pub returns-in-Display : goal.returns-in-Display
returns-in-Display c = let a = c.args in
    rw c.in-Display.is (c.advance.ensures _ ∙ emits a.writer.now c.is_counting.ensures c.if-is_counting.false a.buf.now (part a.s.now a.range) _ c.put_part.ensures)

pub returns-in-Debug : goal.returns-in-Debug
returns-in-Debug c = let a = c.args in
    rw c.in-Debug.is (c.advance-in-Debug.ensures _ ∙ emits a.writer.now c.is_counting.ensures c.if-is_counting.false a.buf.now (quoted (part a.s.now a.range)) _ c.put_quoted_part.ensures)
