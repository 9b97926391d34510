use mathlib.Core.Path.{sym, ◌∙◌}
use lib.ListN.{length-replicate}
use Rattle.formatting.specs.Flags.{default_flags}
use Rattle.calls.specs.Call.{spaces}
use Rattle.str_writer.proofs.Values.{repeated-put}
use Rattle.writer_backend.proofs.Output.{adds, writes, put_past, written}
use Rattle.writer_backend.proofs.pieces.WriterBackend.put_spaces.Goals as goal

pub returns-then-is_counting : goal.returns-then-is_counting
returns-then-is_counting c = let a = c.args in
    c.add_len.ensures a.buf.now ∙ adds a.self.now c.is_counting.ensures c.if-is_counting.true a.buf.now (spaces a.k) (sym (length-replicate a.k 32))

pub returns-then-buf-self : goal.returns-then-buf-self
returns-then-buf-self c = let a = c.args in
    put_past a.self.now a.buf.now (writes a.self.now c.is_counting.ensures c.if-is_counting.false) (spaces a.k) c.if-buf-self.true

pub returns : goal.returns
returns c = let a = c.args in
    c.advance.ensures _
    ∙ written a.self.now c.is_counting.ensures c.if-is_counting.false a.buf.now (spaces a.k) _ c.if-buf-self.false
    (c.write_ascii_repeated.ensures ∙ sym (repeated-put default_flags a.buf.now a.self.now.number c.if-buf-self.false 32 a.k))
