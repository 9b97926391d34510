use Rattle.formatting.specs.Flags.{default_flags}
use Rattle.str_writer.specs.Value.{display, text_of}
use Rattle.single_writes.proofs.Counting.{counts-integer}
use Rattle.single_writes.proofs.counts.count_display.Goals as goal

pub returns : goal.returns
unfolding text_of
returns g c = rw c.answer_number.ensures (counts-integer c.args.total.now default_flags display g.I.PrimitiveInteger.BITS (g.I.PrimitiveInteger.value c.args.x) c.add.ensures c.compute_display_len.ensures)
