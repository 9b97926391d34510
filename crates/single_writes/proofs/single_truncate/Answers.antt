use mathlib.Core.Path.{ap}
use Rattle.str_writer.specs.Write.{outcome}
use Rattle.single_writes.proofs.single_truncate.Goals as goal

pub returns : goal.returns
returns c = c.answered.ensures c.args.buf.now _ (ap (λ w. outcome w c.args.buf.now) c.truncate-w.ensures)
