use mathlib.Core.Path.{sym, ap}
use lib.ListN.{length}
use Rattle.std.proofs.lemmas.Result.{err_from_is_err_and}
use Rattle.formatting.specs.Flags.{default_flags}
use Rattle.str_writer.specs.Value.{str, display, whole, text_of, input_fault}
use Rattle.str_writer.proofs.Values.{whole_part}
use Rattle.value_writes.proofs.ValueLaws.{met}
use Rattle.single_writes.proofs.Counting.{counted-value, refused-value}
use Rattle.single_writes.proofs.counts.count_str.Goals as goal

pub returns-in_err-str_fault : goal.returns-in_err-str_fault
unfolding input_fault
returns-in_err-str_fault c = let a = c.args in
    let p = err_from_is_err_and c.from_residual.result c.from_residual.ensures.1 in
    rw (p.1, p.2) (refused-value a.total.now (str display a.s.now (whole a.s.now)) _ (met _ c.in_err-str_fault.ensures))

pub returns : goal.returns
unfolding text_of input_fault
returns c = let a = c.args in
    let s = a.s.now in
    counted-value a.total.now (str display s (whole s)) (met _ c.in_ok-str_fault.ensures) (c.add.ensures (text_of default_flags (str display s (whole s))) (ap length (sym (whole_part s))))
