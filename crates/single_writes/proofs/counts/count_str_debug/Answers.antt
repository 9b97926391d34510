use lib.ListN.{length}
use Rattle.std.proofs.lemmas.Result.{err_from_is_err_and}
use Rattle.formatting.specs.Escape.{quoted}
use Rattle.utils.specs.Text.{part}
use Rattle.str_writer.specs.Value.{str, debug, whole, text_of, input_fault}
use Rattle.value_writes.proofs.ValueLaws.{met, quoted_counted}
use Rattle.single_writes.proofs.Counting.{counted-value, refused-value, count-refused}
use Rattle.single_writes.proofs.counts.count_str_debug.Goals as goal

pub returns-in_err-str_fault : goal.returns-in_err-str_fault
unfolding input_fault
returns-in_err-str_fault c = let a = c.args in
    let p = err_from_is_err_and c.from_residual.result c.from_residual.ensures.1 in
    rw (p.1, p.2) (refused-value a.total.now (str debug a.s.now (whole a.s.now)) _ (met _ c.in_err-str_fault.ensures))

pub returns-in_err-compute_utf8_debug_len_in_range : goal.returns-in_err-compute_utf8_debug_len_in_range
unfolding text_of input_fault
returns-in_err-compute_utf8_debug_len_in_range c = let a = c.args in
    let s = a.s.now in
    let q = err_from_is_err_and c.from_residual-in_err-compute_utf8_debug_len_in_range.result c.from_residual-in_err-compute_utf8_debug_len_in_range.ensures.1 in
    counted-value a.total.now (str debug s (whole s)) (met _ c.in_ok-str_fault.ensures)
    (rw (q.1, q.2) (count-refused (quoted (part s (whole s))) _ c.in_err-compute_utf8_debug_len_in_range.ensures a.total.now))

pub returns : goal.returns
unfolding text_of input_fault
returns c = let a = c.args in
    let s = a.s.now in
    let t = quoted (part s (whole s)) in
    counted-value a.total.now (str debug s (whole s)) (met _ c.in_ok-str_fault.ensures) (c.add.ensures t (quoted_counted (length t) _ c.in_ok-compute_utf8_debug_len_in_range.ensures))
