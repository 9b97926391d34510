use Rattle.single_writes.proofs.single_write_ascii_range_debug.Goals as goal

pub returns : goal.returns
returns c = c.answered.ensures _ _ c.write_ascii_range_debug-w.ensures
