use Rattle.std.proofs.Common.{rules, sym, ap, ◌∙◌}
use Rattle.sheet_stream.specs.Step.{run_over, after_write}
use Rattle.sheet_stream.proofs.Going.{going-begins, turn-writes, turn-reads, write-ends, goes-written}
use Rattle.sheet_stream.proofs.program.play.Goals as goal

pub loop-init : goal.loop-init
loop-init g c = going-begins _ _ _ (c.new-stream.ensures.begins _ _ _)

pub returns-then-is_over : goal.returns-then-is_over
returns-then-is_over g c =
    let e = sym (c.is_over.ensures ∙ ap run_over (c.emptied.ensures ∙ ap (after_write c.step-waits.new.self) c.is_ok.ensures.value)) ∙ c.if-is_over.true in
    write-ends _ _ _ _ _ _ _ _ _ _ _ _ (c.step-waits.ensures.stepped (search rules)) c.loop.invariant _ c.write_all-written.result (rw c.slice_up_to_len.ensures at c.write_all-written.ensures.bytes) e

pub loop-preserved-then-not-waits : goal.loop-preserved-then-not-waits
loop-preserved-then-not-waits g c =
    let s = goes-written c.step-waits.new.self _ _ _ c.write_all-written.result (rw c.slice_up_to_len.ensures at c.write_all-written.ensures.bytes) c.is_ok.ensures.value c.emptied.ensures c.is_over.ensures c.if-is_over.false in
    rw s.0 (turn-writes _ _ _ _ _ _ _ _ _ _ _ _ (c.step-waits.ensures.stepped (search rules)) c.loop.invariant _ s.1)

pub loop-preserved : goal.loop-preserved
loop-preserved g c =
    let s = goes-written c.step-waits.new.self _ _ _ c.write_all-written.result (rw c.slice_up_to_len.ensures at c.write_all-written.ensures.bytes) c.is_ok.ensures.value c.emptied.ensures c.is_over.ensures c.if-is_over.false in
    let m = rw s.0 at c.read_more.ensures in
    rw s.0 (turn-reads _ _ _ _ _ _ _ _ _ _ _ _ (c.step-waits.ensures.stepped (search rules)) c.loop.invariant _ s.1 (search rules) _ _ _ m.0 m.1)
