use mathlib.Core.Path.{refl, sym, ◌∙◌}
use Prim.Native.Nat.{◌%◌}
use lib.ListN.{replicate, length-replicate}
use Rattle.formatting.specs.Flags.{default_flags}
use Rattle.str_writer.specs.Value.{repeated, text_of, input_fault, cut_fault}
use Rattle.str_writer.proofs.Outcomes.{put-write}
use Rattle.value_writes.proofs.ValueLaws.{emits_len, emits}
use Rattle.value_writes.proofs.put_repeated.Goals as goal

pub returns-then-is_counting : goal.returns-then-is_counting
returns-then-is_counting c = let a = c.args in
    c.add_len.ensures a.buf.now ∙ emits_len a.writer.now c.is_counting.ensures c.if-is_counting.true a.buf.now (replicate a.n (a.c % 128)) (sym (length-replicate a.n (a.c % 128)))

pub returns : goal.returns
unfolding text_of input_fault cut_fault
returns c = let a = c.args in
    c.advance.ensures _
    ∙ emits a.writer.now c.is_counting.ensures c.if-is_counting.false a.buf.now (replicate a.n (a.c % 128)) _ (c.write_ascii_repeated.ensures ∙ sym (put-write default_flags a.buf.now a.writer.now.number (repeated a.c a.n) refl refl))
