use mathlib.Core.List.{[]}
use mathlib.Core.Path.{◌∙◌}
use Rattle.str_writer.specs.Value.{integer, debug, text_of}
use Rattle.calls.specs.Model.{counting}
use Rattle.value_writes.specs.Values.{value_out}
use Rattle.single_writes.specs.ByFlags.{wrong_flags, from}
use Rattle.single_writes.proofs.Counting.{counts-integer, flags_ok}
use Rattle.single_writes.proofs.counts.count_debug.Goals as goal

pub returns-in-Ok : goal.returns-in-Ok
unfolding text_of
returns-in-Ok g c = let a = c.args in
    let k = g.I.PrimitiveInteger.BITS in
    let z = g.I.PrimitiveInteger.value a.x in
    rw c.answer_number.ensures
    (counts-integer a.total.now c.in-Ok.flags debug k z c.add.ensures c.compute_debug_len.ensures
    ∙ flags_ok a.flags (wrong_flags (counting a.total.now) []) (λ f. value_out (from a.total.now) [] f (integer debug k z)) c.in-Ok.flags c.in-Ok.ensures)
