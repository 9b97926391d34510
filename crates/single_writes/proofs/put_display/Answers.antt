use Rattle.single_writes.proofs.put_display.Goals as goal

pub returns : goal.returns
returns g c = c.answered.ensures _ _ c.write_display-w.ensures
