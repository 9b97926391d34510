use Rattle.calls.specs.Call.{spaces}
use Rattle.writer_backend.proofs.Sequence.{holds_tried}
use Rattle.writer_backend.proofs.pieces.WriterBackend.try_spaces.Goals as goal

pub returns : goal.returns
returns c = let a = c.args in
    holds_tried a.held.now _ a.self.now _ a.buf.now _ (spaces a.k) c.put_spaces.result c.put_spaces.ensures c.hold.ensures
