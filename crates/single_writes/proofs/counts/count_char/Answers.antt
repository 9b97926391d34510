use lib.ListN.{length}
use Rattle.std.proofs.lemmas.Result.{err_from_is_err_and}
use Rattle.char_encoding.specs.Char.{char_display}
use Rattle.str_writer.specs.Value.{char, display, text_of}
use Rattle.value_writes.proofs.ValueLaws.{char_counted, char_met}
use Rattle.single_writes.proofs.Counting.{counted-value, refused-value}
use Rattle.single_writes.proofs.counts.count_char.Goals as goal

pub returns-in_err-char_display_len : goal.returns-in_err-char_display_len
returns-in_err-char_display_len c = let a = c.args in
    let p = err_from_is_err_and c.from_residual.result c.from_residual.ensures.1 in
    rw (p.1, p.2) (refused-value a.total.now (char display a.c) _ (char_met display a.c (length (char_display a.c)) _ c.in_err-char_display_len.ensures))

pub returns : goal.returns
unfolding text_of
returns c = let a = c.args in
    let k = char_counted display a.c (length (char_display a.c)) _ c.in_ok-char_display_len.ensures in
    counted-value a.total.now (char display a.c) k.1 (c.add.ensures (char_display a.c) k.0)
