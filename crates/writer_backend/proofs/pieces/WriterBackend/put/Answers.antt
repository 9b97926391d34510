use mathlib.Core.Path.{refl, ◌∙◌}
use Rattle.writer_backend.proofs.Output.{adds, writes, put_past, written}
use Rattle.writer_backend.proofs.pieces.WriterBackend.put.Goals as goal

pub returns-then-is_counting : goal.returns-then-is_counting
returns-then-is_counting c = let a = c.args in
    c.add_len.ensures a.buf.now ∙ adds a.self.now c.is_counting.ensures c.if-is_counting.true a.buf.now a.s.now refl

pub returns-then-buf-self : goal.returns-then-buf-self
returns-then-buf-self c = let a = c.args in
    put_past a.self.now a.buf.now (writes a.self.now c.is_counting.ensures c.if-is_counting.false) a.s.now c.if-buf-self.true

pub returns : goal.returns
returns c = let a = c.args in
    c.advance.ensures _
    ∙ written a.self.now c.is_counting.ensures c.if-is_counting.false a.buf.now a.s.now _ c.if-buf-self.false c.put.ensures
