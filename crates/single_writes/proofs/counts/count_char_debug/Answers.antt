use lib.ListN.{length}
use Rattle.std.proofs.lemmas.Result.{err_from_is_err_and}
use Rattle.char_encoding.specs.Char.{char_debug}
use Rattle.str_writer.specs.Value.{char, debug, text_of}
use Rattle.value_writes.proofs.ValueLaws.{char_counted, char_met}
use Rattle.single_writes.proofs.Counting.{counted-value, refused-value}
use Rattle.single_writes.proofs.counts.count_char_debug.Goals as goal

pub returns-in_err-char_debug_len : goal.returns-in_err-char_debug_len
returns-in_err-char_debug_len c = let a = c.args in
    let p = err_from_is_err_and c.from_residual.result c.from_residual.ensures.1 in
    rw (p.1, p.2) (refused-value a.total.now (char debug a.c) _ (char_met debug a.c (length (char_debug a.c)) _ c.in_err-char_debug_len.ensures))

pub returns : goal.returns
unfolding text_of
returns c = let a = c.args in
    let k = char_counted debug a.c (length (char_debug a.c)) _ c.in_ok-char_debug_len.ensures in
    counted-value a.total.now (char debug a.c) k.1 (c.add.ensures (char_debug a.c) k.0)
