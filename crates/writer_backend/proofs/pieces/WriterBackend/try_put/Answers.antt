use Rattle.writer_backend.proofs.Sequence.{holds_tried}
use Rattle.writer_backend.proofs.pieces.WriterBackend.try_put.Goals as goal

pub returns : goal.returns
returns c = let a = c.args in
    holds_tried a.held.now _ a.self.now _ a.buf.now _ a.s.now c.put.result c.put.ensures c.hold.ensures
