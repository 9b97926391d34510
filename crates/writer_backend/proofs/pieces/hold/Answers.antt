use Rattle.writer_backend.proofs.Sequence.{first_held}
use Rattle.writer_backend.proofs.pieces.hold.Goals as goal

pub returns-in-Err : goal.returns-in-Err
returns-in-Err c = rw c.in-Err.is (first_held c.args.held.now c.in-Err.error _ c.get_or_insert.ensures.value)
