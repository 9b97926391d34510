use Rattle.std.proofs.Common.{rules}
use Rattle.line_input.proofs.Laws.{reads-more}
use Rattle.line_input.proofs.read_more.Goals as goal

pub returns : goal.returns
returns g c = reads-more _ _ _ _ _ c.shift.ensures.reader c.shift.ensures.space_after c.read.result (search rules) _ c.unwrap_or-n.ensures _ _ c.read.ensures.bytes
